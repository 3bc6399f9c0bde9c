-- The statements that are opened, those that are given and those that were paid.
use Rattle.std.proofs.Common.{Bool, cond, ◌≡◌, ◌∙◌, ◌≢◌, ℕ, List, [], ◌∷◌, ◌++◌, refl, ap, ap₂, sym, subst, map, length, inl, inr, arith}
use Rattle.std.specs.Prelude.{Option, None, Some, Result, Ok, Err, true, false, if◌then◌else◌, nat_lt, count_by}
use Rattle.std.proofs.lemmas.Grind.{common_steps}
use Rattle.std.proofs.lemmas.List.{append-nil, map-append}
use Rattle.std.proofs.lemmas.List.Sums.{sum_by-append}
use Rattle.dsr_command.proofs.Opening.{files_named, texts_named}
use Rattle.dsr_command.specs.declared.identity.FileIdentity.{FileIdentity}
use Rattle.dsr_command.specs.declared.inputs.OpenError.{OpenError}
use Rattle.dsr_command.specs.declared.inputs.OpenError.TheVariants.{CannotOpen, InputTwice, Memory}
use Rattle.dsr_command.specs.Inputs.{IsRefusal}
use Rattle.dsr_command.specs.World.{AreFresh, AreSources, Disk, files_for, is_input, names_read, texts_for, texts_of, with_input}
use Rattle.dsr_io.specs.meaning.Told.{Told}
use Rattle.dsr_totals.specs.declared.command.Asked.{Asked}
use Rattle.dsr_totals.specs.declared.lists.InputError.{InputError}
use Rattle.dsr_totals.specs.declared.lists.InputError.TheVariants.{Open, Read}
use Rattle.dsr_totals.specs.declared.opening.Opened.{Opened}
use Rattle.dsr_totals.specs.Serving.{behind_given, both_texts, files_asked, lists_asked, texts_asked, with_listed}
use Rattle.dsr_totals.specs.Steps.{AreListed, AreOpened, AreUnlisted, AreUnopened, IsPaidRefusal}

fresh_both : {R : Type 0} (told : R → Told) (rs : List R) (ts : List (List ℕ)) (qs : List R) (us : List (List ℕ))
    → AreFresh told rs ts → AreFresh told qs us → AreFresh told (rs ++ qs) (ts ++ us)
fresh_both told [] [] qs us are more = more
fresh_both told [] (t ∷ ts) qs us are more = absurd are
fresh_both told (r ∷ rs) [] qs us are more = absurd are
fresh_both told (r ∷ rs) (t ∷ ts) qs us are more = (are.0, fresh_both told rs ts qs us are.1 more)

-- standard input is named twice, or not, among the names of all statements
abbrev twice : Asked → Bool
twice asked = nat_lt 1 (count_by is_input (names_read asked.given ++ asked.paid))

-- and so among those of the paid ones
paid_once : (names paid : List (List ℕ)) → nat_lt 1 (count_by is_input (names ++ paid)) ≡ false → nat_lt 1 (count_by is_input paid) ≡ false
paid_once names paid once =
    let both = sum_by-append (λ n. cond (is_input n) 1 0) names paid in grind (arith, common_steps, both, once)

-- the texts of all statements, if it is not
texts_once : (d : Disk) (asked : Asked) → twice asked ≡ false
    → texts_asked d asked ≡ both_texts (texts_for d asked.given) (texts_of (with_input d).files asked.paid)
texts_once d asked once =
    ap (λ b. if b then Err InputTwice else both_texts (texts_for d asked.given) (texts_of (with_input d).files asked.paid)) once

-- it is
pub named_twice : (d : Disk) (asked : Asked) → twice asked ≡ true → IsPaidRefusal (texts_asked d asked) (Open InputTwice)
named_twice d asked is =
    ap (λ b. if b then Err InputTwice else both_texts (texts_for d asked.given) (texts_of (with_input d).files asked.paid)) is

-- some were paid
pub some_paid : {R : Type 0} (told : R → Told) (file : R → Option FileIdentity) (d : Disk) (asked : Asked) (sources paid : List R)
    → twice asked ≡ false → length asked.paid ≢ 0 → AreSources told file (texts_for d asked.given) (files_for d asked.given) sources
    → AreSources told file (texts_for d asked.paid) (files_for d asked.paid) paid
    → AreSources told file (texts_asked d asked) (files_asked d asked) (sources ++ paid)
some_paid told file d asked sources paid once some are more =
    record {
      bytes = are.bytes ++ more.bytes;
      texts_are =
          texts_once d asked once
          ∙ ap₂ both_texts are.texts_are (sym (texts_named d asked.paid some (paid_once (names_read asked.given) asked.paid once)) ∙ more.texts_are);
      fresh = fresh_both told sources are.bytes paid more.bytes are.fresh more.fresh;
      files_are = map-append file sources paid ∙ ap₂ (λ xs ys. xs ++ ys) are.files_are (more.files_are ∙ files_named d asked.paid some);
    }

-- none was paid
pub none_paid : {R : Type 0} (told : R → Told) (file : R → Option FileIdentity) (d : Disk) (asked : Asked) (sources : List R)
    → twice asked ≡ false → length asked.paid ≡ 0 → AreSources told file (texts_for d asked.given) (files_for d asked.given) sources
    → AreSources told file (texts_asked d asked) (files_asked d asked) sources
none_paid told file d asked sources once none are = all (by asked.paid none)
  where
    by : (paid : List (List ℕ)) → length paid ≡ 0
        → AreSources told file (both_texts (texts_for d asked.given) (texts_of (with_input d).files paid)) (files_for d asked.given ++ map (with_input d).file paid) sources
    by [] e = record {
      bytes = are.bytes;
      texts_are = ap (λ t. both_texts t (Ok [])) are.texts_are ∙ ap Ok (append-nil are.bytes);
      fresh = are.fresh;
      files_are = are.files_are ∙ sym (append-nil (files_for d asked.given));
    }
    by (name ∷ names) e = absurd (omega arith)

    all : AreSources told file (both_texts (texts_for d asked.given) (texts_of (with_input d).files asked.paid)) (files_asked d asked) sources
        → AreSources told file (texts_asked d asked) (files_asked d asked) sources
    all h = subst (λ t. AreSources told file t (files_asked d asked) sources) (sym (texts_once d asked once)) h

-- a paid statement cannot be opened
pub paid_refused : {R : Type 0} (told : R → Told) (file : R → Option FileIdentity) (d : Disk) (asked : Asked) (sources : List R) (error : OpenError)
    → twice asked ≡ false → length asked.paid ≢ 0 → AreSources told file (texts_for d asked.given) (files_for d asked.given) sources
    → IsRefusal (texts_for d asked.paid) error → IsPaidRefusal (texts_asked d asked) (Open error)
paid_refused told file d asked sources (CannotOpen name) once some are h =
    texts_once d asked once ∙ ap₂ both_texts are.texts_are (sym (texts_named d asked.paid some (paid_once (names_read asked.given) asked.paid once)) ∙ h)
paid_refused told file d asked sources InputTwice once some are h =
    texts_once d asked once ∙ ap₂ both_texts are.texts_are (sym (texts_named d asked.paid some (paid_once (names_read asked.given) asked.paid once)) ∙ h)
paid_refused told file d asked sources Memory once some are h = tt

-- a given statement cannot be opened
pub given_refused : {R : Type 0} (told : R → Told) (d : Disk) (asked : Asked) (error : OpenError) → IsRefusal (texts_for d asked.given) error
    → AreUnopened told d asked (Open error)
given_refused told d asked (CannotOpen name) h = inl (ap (λ t. behind_given t (texts_of d.files asked.lists)) h)
given_refused told d asked InputTwice h = inl (ap (λ t. behind_given t (texts_of d.files asked.lists)) h)
given_refused told d asked Memory h = inl tt

module _ {R : Type 0} (told : R → Told) (file : R → Option FileIdentity) (d : Disk) (asked now : Asked) (given : List R)
    (are : AreSources told file (texts_for d asked.given) (files_for d asked.given) given) where
  -- a list is not read
  pub lists_refused : (error : InputError) → AreUnlisted told d asked.lists error → AreUnopened told d asked error
  lists_refused (Open (CannotOpen name)) h = inl (ap₂ behind_given are.texts_are h)
  lists_refused (Open InputTwice) h = inl (ap₂ behind_given are.texts_are h)
  lists_refused (Open Memory) h = inl tt
  lists_refused (Read list) h = h

  module _ (listed : AreListed d asked.lists asked.paid now.paid) (same : now ≡ record asked { paid = now.paid }) where
    now_is : now ≡ with_listed asked listed.0
    now_is = same ∙ ap (λ names. record asked { paid = names }) listed.2

    lists_are : lists_asked d asked ≡ Ok listed.0
    lists_are = ap₂ behind_given are.texts_are listed.1

    -- all were opened
    pub all_opened : (opened : Opened R) → AreSources told file (texts_asked d now) (files_asked d now) opened.inputs.items
        → opened.lists.items ≡ map d.file asked.lists → AreOpened told file d asked now opened
    all_opened opened more files = record {
      texts = listed.0;
      lists_are = lists_are;
      now_is = now_is;
      sources_are = more;
      files_are = files ∙ ap (λ a. map d.file a.lists) (sym same);
    }

    -- a statement that was paid cannot be opened
    pub not_opened : (error : InputError) → IsPaidRefusal (texts_asked d now) error → AreUnopened told d asked error
    not_opened (Open error) h = inr (listed.0, lists_are, subst (λ a. IsRefusal (texts_asked d a) error) now_is h)
    not_opened (Read list) h = absurd h
