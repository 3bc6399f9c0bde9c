-- The names in lists, cut off one after another.
use Rattle.std.proofs.Common.{◌≡◌, ◌∙◌, ◌+◌, ◌<◌, ◌≢◌, ℕ, zero, suc, List, [], ◌∷◌, ◌++◌, true, false, refl, ap, ap₂, sym, subst, cond, Bool, get_or, length, length-append, take, drop, append_assoc, append-nil, arith, inl, inr, slice_index_or, drop-cons, map}
use Rattle.std.specs.Prelude.{◌⊎◌, ◌==◌, All, IsUtf8, Option, None, Some, Result, Ok, Err}
use Rattle.std.specs.Io.KnownBytes.{Consumes, IsAtEnd}
use Rattle.std.specs.List.{Any, Contains, flat_map, onto_first, position, position_or_len, slice_split}
use Rattle.std.proofs.lemmas.Bool.{cases_lt, eq-eqb, eqb-true, lt-ltb}
use Rattle.std.proofs.lemmas.Grind.{flat_map-append}
use Rattle.std.proofs.lemmas.List.{get_or_default, get_or-take, length-take, map-append, take_more, take-append-drop}
use Rattle.std.proofs.lemmas.List.Quantifiers.{position-Some}
use Rattle.std.proofs.lemmas.List.Sums.{fails_before_first}
use Rattle.std.proofs.lemmas.List.Splits.{slice_split_at, slice_split_none}
use Rattle.dsr_command.proofs.LayoutBytes.{taken_all}
use Rattle.dsr_command.proofs.Opening.{missing_at, one_missing, one_text, texts_append}
use Rattle.dsr_command.specs.declared.inputs.OpenError.{OpenError}
use Rattle.dsr_command.specs.declared.inputs.OpenError.TheVariants.{CannotOpen, InputTwice, Memory}
use Rattle.dsr_command.specs.declared.world.OpenFault.{OpenFault}
use Rattle.dsr_command.specs.declared.world.OpenFault.TheVariants as opening
use Rattle.dsr_command.specs.Inputs.{IsRefusalOf}
use Rattle.dsr_command.specs.World.{Disk, Opens, before_texts, texts_of}
use Rattle.dsr_io.specs.meaning.Told.{Told}
use Rattle.dsr_command.specs.declared.identity.FileIdentity.{FileIdentity}
use Rattle.dsr_totals.specs.declared.lists.InputError.{InputError}
use Rattle.dsr_totals.specs.declared.lists.InputError.TheVariants.{Open, Read}
use Rattle.dsr_totals.specs.declared.lists.ListFault.{ListFault}
use Rattle.dsr_totals.specs.declared.lists.ListFault.TheVariants as faults
use Rattle.dsr_totals.specs.Lists.{HasBadName, IsUnreadable, name_end, names_ended, names_in, names_listed, without_empty_last}
use Rattle.dsr_totals.specs.Steps.{AreListed, AreUnlisted, GaveAll, IsCutAt, IsListFault, IsListRead, IsUnread}

-- bytes are cut at their first end
pub cut_found : (end : ℕ) (bytes : List ℕ) (i : ℕ) → position (λ b. b == end) bytes ≡ Some i → IsCutAt end bytes (take i bytes) (drop (i + 1) bytes)
cut_found end bytes i e =
    let first = position-Some (λ b. b == end) bytes i 0 e in
    record {
      plain = λ k d below.
          let lower : k < i = omega (arith, length-take i bytes) in
          ap (λ b. b == end) (get_or-take i bytes k d lower) ∙ (position-Some (λ b. b == end) bytes i d e).2 k lower;
      parts = inl (
          sym (take-append-drop i bytes) ∙ ap (λ l. take i bytes ++ l) (drop-cons bytes i 0 first.0)
          ∙ (λ j. take i bytes ++ eqb-true (get_or bytes i 0) end first.1 j ∷ drop (next j) bytes));
    }
  where
    next : suc i ≡ i + 1
    next = omega arith

-- bytes without an end are one name
pub cut_nowhere : (end : ℕ) (bytes : List ℕ) → position (λ b. b == end) bytes ≡ None → IsCutAt end bytes bytes []
cut_nowhere end bytes e = elim (cases_lt (position_or_len (λ b. b == end) bytes) (length bytes)) [
  | inl some ↦ let there = rw (lt-ltb _ _ some) at e in cc
  | inr none ↦ record {
    plain = λ k d below. fails_before_first (λ b. b == end) bytes k d (omega arith);
    parts = inr (refl, refl);
  }
]

-- there is a first piece
split_some : (p : ℕ → Bool) (xs : List ℕ) → (q : List ℕ) × (qs : List (List ℕ)) × (slice_split p xs ≡ q ∷ qs)
split_some p [] = ([], [], refl)
split_some p (x ∷ xs) =
    let e = split_some p xs in
    elim (p x) as (λ b. (q : List ℕ) × (qs : List (List ℕ)) × (cond b ([] ∷ slice_split p xs) (onto_first x (slice_split p xs)) ≡ q ∷ qs))
    [ true ↦ ([], slice_split p xs, refl) | false ↦ (x ∷ e.0, e.1, ap (onto_first x) e.2) ]

push_first : (name q : List ℕ) (qs : List (List ℕ)) → without_empty_last (name ∷ q ∷ qs) ≡ name ∷ without_empty_last (q ∷ qs)
push_first [] q qs = refl
push_first (b ∷ bs) q qs = refl

module _ (end : ℕ) where
  ended_at : (name rest : List ℕ) → All (λ b. (b == end) ≡ false) name → names_ended end (name ++ end ∷ rest) ≡ name ∷ names_ended end rest
  ended_at name rest plain =
      let s = split_some (λ b. b == end) rest in
      ap without_empty_last (slice_split_at (λ b. b == end) name end rest plain (eq-eqb end end refl) ∙ ap (λ ps. name ∷ ps) s.2)
      ∙ push_first name s.0 s.1 ∙ ap (λ ps. name ∷ without_empty_last ps) (sym s.2)

  ended_all : (name : List ℕ) → All (λ b. (b == end) ≡ false) name → 0 < length name → names_ended end name ≡ name ∷ []
  ended_all [] plain some = absurd (omega arith)
  ended_all (b ∷ bs) plain some = ap without_empty_last (slice_split_none (λ c. c == end) (b ∷ bs) plain)

  -- the first name and those behind it
  pub names_cut : (bytes name rest : List ℕ) → 0 < length bytes → IsCutAt end bytes name rest → names_ended end bytes ≡ name ∷ names_ended end rest
  names_cut bytes name rest some c = by c.parts
    where
      by : (bytes ≡ name ++ end ∷ rest) ⊎ ((bytes ≡ name) × (rest ≡ [])) → names_ended end bytes ≡ name ∷ names_ended end rest
      by (inl same) = ap (names_ended end) same ∙ ended_at name rest c.plain
      by (inr (same, none)) =
          ap (names_ended end) same ∙ ended_all name c.plain (subst (λ l. 0 < length l) same some)
          ∙ ap (λ r. name ∷ names_ended end r) (sym none)

-- some names of these bytes stand behind the others, and the rest spells those that are left
pub record HavePushed (end : ℕ) (bytes rest : List ℕ) (old new : List (List ℕ)) : Type 0 where
  pub front : List (List ℕ)
  pub all : names_ended end bytes ≡ front ++ names_ended end rest
  pub pushed : new ≡ old ++ front

pub none_pushed : (end : ℕ) (bytes : List ℕ) (old : List (List ℕ)) → HavePushed end bytes bytes old old
none_pushed end bytes old = record { front = []; all = refl; pushed = sym (append-nil old) }

pub one_pushed : (end : ℕ) (bytes rest name more : List ℕ) (old now new : List (List ℕ)) → HavePushed end bytes rest old now → 0 < length rest
    → IsCutAt end rest name more → new ≡ now ++ name ∷ [] → HavePushed end bytes more old new
one_pushed end bytes rest name more old now new w some c is = record {
  front = w.front ++ name ∷ [];
  all =
      w.all ∙ ap (λ l. w.front ++ l) (names_cut end rest name more some c)
      ∙ sym (append_assoc w.front (name ∷ []) (names_ended end more));
  pushed = is ∙ ap (λ l. l ++ name ∷ []) w.pushed ∙ append_assoc old w.front (name ∷ []);
}

pub all_pushed : (end : ℕ) (bytes rest : List ℕ) (old new : List (List ℕ)) → end ≡ name_end bytes → HavePushed end bytes rest old new
    → length rest ≡ 0 → new ≡ old ++ names_in bytes
all_pushed end bytes [] old new is w none =
    w.pushed ∙ ap (λ l. old ++ l) (sym (w.all ∙ append-nil w.front)) ∙ ap (λ e. old ++ names_ended e bytes) is
all_pushed end bytes (b ∷ bs) old new is w none = absurd (omega arith)

index_mid : {X : Type 0} (xs ys : List X) (x d : X) → slice_index_or (xs ++ x ∷ ys) (length xs) d ≡ x
index_mid [] ys x d = refl
index_mid (z ∷ xs) ys x d = index_mid xs ys x d

any_mid : {X : Type 0} (P : X → Type 0) (xs ys : List X) (x : X) → P x → Any P (xs ++ x ∷ ys)
any_mid P xs ys x h = (length xs, x, omega (arith, length-append xs (x ∷ ys)), index_mid xs ys x x, h)

pub bad_name : (end : ℕ) (bytes rest name more : List ℕ) (old now : List (List ℕ)) → end ≡ name_end bytes → HavePushed end bytes rest old now
    → 0 < length rest → IsCutAt end rest name more → ¬ (IsUtf8 name) → HasBadName bytes
bad_name end bytes rest name more old now is w some c bad =
    subst (λ e. Any (λ n. ¬ (IsUtf8 n)) (names_ended e bytes)) is
    (subst (Any (λ n. ¬ (IsUtf8 n))) (sym (w.all ∙ ap (λ l. w.front ++ l) (names_cut end rest name more some c)))
    (any_mid (λ n. ¬ (IsUtf8 n)) w.front (names_ended end more) name bad))

-- a cut leaves fewer bytes
pub cut_shorter : (end : ℕ) (bytes name rest : List ℕ) → 0 < length bytes → IsCutAt end bytes name rest → length rest < length bytes
cut_shorter end bytes name rest some c = by c.parts
  where
    by : (bytes ≡ name ++ end ∷ rest) ⊎ ((bytes ≡ name) × (rest ≡ [])) → length rest < length bytes
    by (inl same) = omega (arith, ap length same, length-append name (end ∷ rest))
    by (inr (same, none)) = omega (arith, ap length none)

-- a list that was opened and read
pub one_listed : {R : Type 0} (told : R → Told) (file : R → Option FileIdentity) (d : Disk) (list : List ℕ) (source : R) (after : Told)
    (old new : List (List ℕ)) → Opens told file d list (Ok source) → IsListRead (told source) after old new → AreListed d (list ∷ []) old new
one_listed told file d list source after old new (bytes, there, is) (given, gave, pushed) =
    let same = taken_all (told source).remaining after.remaining bytes given is.fresh.remaining gave.consumed gave.whole in (
      bytes ∷ [],
      one_text d.files list bytes there,
      pushed ∙ ap (λ b. old ++ names_in b) same ∙ ap (λ l. old ++ l) (sym (append-nil (names_in bytes))),
    )

-- a list that was opened and cannot be read
pub one_unread : {R : Type 0} (told : R → Told) (file : R → Option FileIdentity) (d : Disk) (list : List ℕ) (source after : R) (fault : ListFault)
    (error : InputError) → Opens told file d list (Ok source) → IsListFault (told source) (told after) fault → IsUnread list fault error
    → AreUnlisted told d (list ∷ []) error
one_unread told file d list source after fault (Open (CannotOpen name)) opened h error = absurd error
one_unread told file d list source after fault (Open InputTwice) opened h error = absurd error
one_unread told file d list source after fault (Open Memory) opened h error = tt
one_unread told file d list source after faults.Memory (Read name) opened h error = absurd (cc error.0)
one_unread {R} told file d list source after faults.Read (Read name) (bytes, there, is) h error =
    subst (λ n. Contains (list ∷ []) n × IsUnreadable told d n) (sym error.1) ((0, omega arith, refl), (bytes, there, by h))
  where
    by : ((told after).failed ≡ true) ⊎ ((given : List ℕ) × GaveAll (told source) (told after) given × HasBadName given)
        → ((reader : R) × ((told reader).failed ≡ true)) ⊎ HasBadName bytes
    by (inl failure) = inl (after, failure)
    by (inr (given, gave, bad)) =
        inr (subst HasBadName (taken_all (told source).remaining (told after).remaining bytes given is.fresh.remaining gave.consumed gave.whole) bad)

-- a list that is not opened
pub one_unopened : {R : Type 0} (told : R → Told) (file : R → Option FileIdentity) (d : Disk) (list : List ℕ) (fault : OpenFault) (error : OpenError)
    → Opens told file d list (Err fault) → IsRefusalOf list fault error → AreUnlisted told d (list ∷ []) (Open error)
one_unopened told file d list opening.Missing (CannotOpen name) missing error =
    subst (λ n. texts_of d.files (list ∷ []) ≡ Err (CannotOpen n)) (sym error.1) (one_missing d.files list missing)
one_unopened told file d list opening.Memory (CannotOpen name) missing error = absurd (cc error.0)
one_unopened told file d list fault InputTwice missing error = absurd error
one_unopened told file d list fault Memory missing error = tt

-- no list was read yet
pub none_listed : (d : Disk) (old : List (List ℕ)) → AreListed d [] old old
none_listed d old = ([], refl, sym (append-nil old))

-- one more list was read
pub listed_more : (d : Disk) (lists : List (List ℕ)) (k : ℕ) (e : List ℕ) (old now new : List (List ℕ)) → k < length lists
    → AreListed d (take k lists) old now → AreListed d (slice_index_or lists k e ∷ []) now new → AreListed d (take (k + 1) lists) old new
listed_more d lists k e old now new lt (texts, are, was) (more, is, pushed) = (
  texts ++ more,
  subst (λ ns. texts_of d.files ns ≡ Ok (texts ++ more)) (sym (take_more lists k e lt))
      (texts_append d.files (take k lists) (slice_index_or lists k e ∷ []) texts more are is),
  pushed ∙ ap (λ l. l ++ names_listed more) was ∙ append_assoc old (names_listed texts) (names_listed more)
      ∙ ap (λ l. old ++ l) (sym (flat_map-append names_in texts more)),
)

-- one more file is known
pub files_more : {X : Type 0} (file : List ℕ → X) (lists : List (List ℕ)) (k : ℕ) (e : List ℕ) (files : List X) (x : X) → k < length lists
    → files ≡ map file (take k lists) → x ≡ file (slice_index_or lists k e) → files ++ x ∷ [] ≡ map file (take (k + 1) lists)
files_more file lists k e files x lt are is =
    (λ i. are i ++ is i ∷ []) ∙ sym (map-append file (take k lists) (slice_index_or lists k e ∷ [])) ∙ ap (map file) (sym (take_more lists k e lt))

-- a list is not read
pub unlisted_at : {R : Type 0} (told : R → Told) (d : Disk) (lists : List (List ℕ)) (k : ℕ) (e : List ℕ) (old now : List (List ℕ)) (error : InputError)
    → k < length lists → AreListed d (take k lists) old now → AreUnlisted told d (slice_index_or lists k e ∷ []) error → AreUnlisted told d lists error
unlisted_at told d lists k e old now (Open Memory) lt are h = tt
unlisted_at told d lists k e old now (Open (CannotOpen name)) lt (texts, are, was) h = missing_at d.files lists k e texts (CannotOpen name) lt are h
unlisted_at told d lists k e old now (Open InputTwice) lt (texts, are, was) h = missing_at d.files lists k e texts InputTwice lt are h
unlisted_at told d lists k e old now (Read name) lt are ((zero, low, is), unreadable) = ((k, lt, get_or_default lists k name e lt ∙ is), unreadable)
unlisted_at told d lists k e old now (Read name) lt are ((suc j, low, is), unreadable) = absurd (omega arith)
