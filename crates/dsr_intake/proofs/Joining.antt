-- What holds while the threads are started, and while they are joined.
use Rattle.dsr_intake.proofs.Common.{◌≡◌, ℕ, false, List, [], ◌∷◌, ◌++◌, map, All, refl, sym, ap, subst, ◌∙◌, append_assoc, append-nil, map-append, All-head, All-tail, All-push, Placed, IsOrderly, FileText, events_of_text, Told, TapView, Options, ends_clean, IsDrained, IsGiven, GaveEach, file_of}
use Rattle.std.proofs.lemmas.Simd.{map-map}
use Rattle.dsr_file.specs.meaning.Sources.{GaveText}
use Rattle.dsr_io.specs.meaning.Told.{HoldsGiven}
use Rattle.dsr_relay.specs.declared.name.Name.{Name}
use Rattle.dsr_records.specs.meaning.Records.{LayoutTable}
use Rattle.dsr_intake.specs.meaning.Texts.{HoldEach}
use Rattle.dsr_intake.proofs.EndLemmas.{clean_is_whole}

gave_more : {R : Type 0} (told : R → Told) (options : Options) (rs ss : List R) (ts : List FileText) (r s : R) (t : FileText)
    → GaveEach told options rs ss ts → GaveText options.layout options.max_reads (told r) (told s) t
    → GaveEach told options (rs ++ r ∷ []) (ss ++ s ∷ []) (ts ++ t ∷ [])
gave_more told options [] [] [] r s t h new = (new, tt)
gave_more told options (x ∷ rs) (y ∷ ss) (z ∷ ts) r s t h new = (h.0, gave_more told options rs ss ts r s t h.1 new)
gave_more told options _ _ _ r s t h new = absurd h

-- `H` is a handle of a thread; `reader`, `name` and `terms` give what the thread was given
module _ {R H : Type 0} (told : R → Told) (options : Options) (reader : H → R) (name : H → Name) (terms : H → Options) where
  -- some threads run, and those of the remaining readers are not started yet
  pub record Starting (all : List R) (hs : List H) (ts : List TapView) (left : List R) : Type 0 where
    pub readers : map reader hs ++ left ≡ all
    pub names : map name hs ≡ map (λ t. t.name) ts
    pub terms_are : All (λ h. terms h ≡ options) hs
    pub untouched : All (λ t. t.taken ≡ []) ts
    pub fresh : All (λ r. (told r).failed ≡ false) left

  pub starting_more : (all : List R) (hs : List H) (ts : List TapView) (r : R) (left : List R) (h : H) (t : TapView) → Starting all hs ts (r ∷ left)
      → reader h ≡ r → name h ≡ t.name → terms h ≡ options → t.taken ≡ [] → Starting all (hs ++ h ∷ []) (ts ++ t ∷ []) left
  starting_more all hs ts r left h t s same named granted none =
      record {
        readers = rw (map-append, append_assoc) (rw same s.readers);
        names = rw map-append (rw map-append (rw (s.names, named) refl));
        terms_are = All-push (λ x. terms x ≡ options) hs h s.terms_are granted;
        untouched = All-push (λ x. x.taken ≡ []) ts t s.untouched none;
        fresh = All-tail (λ x. (told x).failed ≡ false) r left s.fresh;
      }

  -- some threads are joined, and the others still run
  pub record Joining (all : List R) (lists : List (List Placed)) (hs : List H) (ts : List TapView) (news : List R) : Type 0 where
    pub names : map name hs ≡ map (λ t. t.name) ts
    pub terms_are : All (λ h. terms h ≡ options) hs
    pub drained : All IsDrained ts
    pub texts : List FileText
    pub before : List R
    pub gave : GaveEach told options before news texts
    pub readers : before ++ map reader hs ≡ all
    pub taken : map (events_of_text options.layout) texts ++ map (λ t. t.taken) ts ≡ lists

  pub joining_none : (hs : List H) (ts : List TapView) → map name hs ≡ map (λ t. t.name) ts → All (λ h. terms h ≡ options) hs → All IsDrained ts
      → Joining (map reader hs) (map (λ t. t.taken) ts) hs ts []
  joining_none hs ts names terms_are drained =
      record { names = names; terms_are = terms_are; drained = drained; texts = []; before = []; gave = tt; readers = refl; taken = refl }

  -- the result of joining one thread
  pub record Settled (h : H) (t : TapView) (new : R) : Type 0 where
    pub sent : List Placed
    pub left : List Placed
    pub given : IsGiven (terms h) (told (reader h)) (told new) sent
    pub meets : sent ≡ t.taken ++ left
    pub orderly : IsOrderly sent

  pub joining_more : (all : List R) (lists : List (List Placed)) (h : H) (hs : List H) (t : TapView) (ts : List TapView) (news : List R) (new : R)
      → Joining all lists (h ∷ hs) (t ∷ ts) news → Settled h t new → Joining all lists hs ts (news ++ new ∷ [])
  joining_more all lists h hs t ts news new j s =
      let drained = All-head IsDrained t ts j.drained in
      let none = clean_is_whole t.taken s.left (subst IsOrderly s.meets s.orderly) drained.1 in
      let whole : s.sent ≡ t.taken = s.meets ∙ ap (λ l. t.taken ++ l) none ∙ append-nil t.taken in
      let g = (subst (λ o. IsGiven o (told (reader h)) (told new) s.sent) (All-head (λ x. terms x ≡ options) h hs j.terms_are) s.given).given
      (ap ends_clean whole ∙ drained.1) in
      record {
        names = let e = j.names in cc;
        terms_are = All-tail (λ x. terms x ≡ options) h hs j.terms_are;
        drained = All-tail IsDrained t ts j.drained;
        texts = j.texts ++ g.0 ∷ [];
        before = j.before ++ reader h ∷ [];
        gave = gave_more told options j.before news j.texts (reader h) new g.0 j.gave g.1;
        readers = append_assoc j.before (reader h ∷ []) (map reader hs) ∙ j.readers;
        taken = rw (map-append, append_assoc)
            (subst (λ l. map (events_of_text options.layout) j.texts ++ l ∷ map (λ x. x.taken) ts ≡ lists) (sym whole ∙ g.2) j.taken);
      }

  pub joining_done : (all : List R) (lists : List (List Placed)) (ts : List TapView) (news : List R) → Joining all lists [] ts news
      → (texts : List FileText) × GaveEach told options all news texts × (lists ≡ map (events_of_text options.layout) texts)
  joining_done all lists [] news j = (
    j.texts,
    subst (λ rs. GaveEach told options rs news j.texts) (sym (append-nil j.before) ∙ j.readers) j.gave,
    sym j.taken
        ∙ append-nil (map (events_of_text options.layout) j.texts),
  )
  joining_done all lists (t ∷ ts) news j = let e = j.names in cc

module _ {R H : Type 0} (told : R → Told) (holds : R → List ℕ → Type 0) (reader : H → R) where
  hold_more : (rs ss : List R) (r s : R) → HoldEach told holds rs ss → HoldsGiven told holds r s → HoldEach told holds (rs ++ r ∷ []) (ss ++ s ∷ [])
  hold_more [] [] r s h new = (new, tt)
  hold_more (x ∷ rs) (y ∷ ss) r s h new = (h.0, hold_more rs ss r s h.1 new)
  hold_more _ _ r s h new = absurd h

  -- the readers of the threads that are joined keep what they gave, and the other threads still run
  pub record Keeping (all : List R) (hs : List H) (news : List R) : Type 0 where
    pub before : List R
    pub held : HoldEach told holds before news
    pub readers : before ++ map reader hs ≡ all

  pub keeping_none : (hs : List H) → Keeping (map reader hs) hs []
  keeping_none hs = record { before = []; held = tt; readers = refl }

  pub keeping_more : (all : List R) (h : H) (hs : List H) (news : List R) (new : R) → Keeping all (h ∷ hs) news → HoldsGiven told holds (reader h) new
      → Keeping all hs (news ++ new ∷ [])
  keeping_more all h hs news new k held =
      record {
        before = k.before ++ reader h ∷ [];
        held = hold_more k.before news (reader h) new k.held held;
        readers = append_assoc k.before (reader h ∷ []) (map reader hs) ∙ k.readers;
      }

  pub keeping_done : (all : List R) (news : List R) → Keeping all [] news → HoldEach told holds all news
  keeping_done all news k = subst (λ rs. HoldEach told holds rs news) (sym (append-nil k.before) ∙ k.readers) k.held

-- if the events taken are those of the texts, so are the files
pub files_of : (layout : LayoutTable) (ts : List TapView) (texts : List FileText) → map (λ t. t.taken) ts ≡ map (events_of_text layout) texts
    → map (λ t. file_of t.taken) ts ≡ map (λ t. file_of (events_of_text layout t)) texts
files_of layout ts texts h =
    sym (map-map file_of (λ (t : TapView). t.taken) ts) ∙ ap (map file_of) h ∙ map-map file_of (events_of_text layout) texts

-- one more thread is joined, and what it returned is kept
pub joined_more : {F H : Type 0} (of : F → Name) (name : H → Name) (fs : List F) (h : H) (hs : List H) (f : F) (all : List Name)
    → map of fs ++ map name (h ∷ hs) ≡ all → of f ≡ name h → map of (fs ++ f ∷ []) ++ map name hs ≡ all
joined_more of name fs h hs f all was same = rw (map-append, append_assoc) (rw same was)
