-- One more line.
use Rattle.dsr_file.proofs.Common.{◌≡◌, ◌∙◌, sym, ap, refl, List, [], ◌∷◌, ◌++◌, None, Some, append_assoc, append-nil, FileFault, Reading, kept, records, fault_of, AllGood, At, first_if, first_from}

pub records-append : (ls ms : List Reading) → records (ls ++ ms) ≡ records ls ++ records ms
records-append [] ms = refl
records-append (l ∷ ls) ms = ap (λ rs. kept l ++ rs) (records-append ls ms) ∙ sym (append_assoc (kept l) (records ls) (records ms))

-- one more line
pub records-push : (ls : List Reading) (l : Reading) → records (ls ++ l ∷ []) ≡ records ls ++ kept l
records-push ls l = records-append ls (l ∷ []) ∙ ap (λ rs. records ls ++ rs) (append-nil (kept l))

-- a line without a record
pub records-same : (ls : List Reading) (l : Reading) → kept l ≡ [] → records (ls ++ l ∷ []) ≡ records ls
records-same ls l e = records-push ls l ∙ ap (λ rs. records ls ++ rs) e ∙ append-nil (records ls)

-- after good lines the search continues
pub first_append : (before ls more : List Reading) → first_from before ls ≡ AllGood → first_from before (ls ++ more) ≡ first_from (before ++ ls) more
first_append before [] more e = ap (λ xs. first_from xs more) (sym (append-nil before))
first_append before (l ∷ ls) more e =
    elim (fault_of before l) as (λ o. first_if o before l (first_from (before ++ l ∷ []) ls) ≡ AllGood
    → first_if o before l (first_from (before ++ l ∷ []) (ls ++ more)) ≡ first_from (before ++ l ∷ ls) more)
    [ None ↦ λ h. first_append (before ++ l ∷ []) ls more h ∙ ap (λ xs. first_from xs more) (append_assoc before (l ∷ []) ls) | Some f ↦ λ h. cc ] e

pub first_good : (ls : List Reading) (l : Reading) → first_from [] ls ≡ AllGood → fault_of ls l ≡ None → first_from [] (ls ++ l ∷ []) ≡ AllGood
first_good ls l e n = first_append [] ls (l ∷ []) e ∙ rw n refl

pub first_at : (ls : List Reading) (l : Reading) (f : FileFault) (more : List Reading) → first_from [] ls ≡ AllGood → fault_of ls l ≡ Some f
    → first_from [] (ls ++ l ∷ more) ≡ At ls l f
first_at ls l f more e n = first_append [] ls (l ∷ more) e ∙ rw n refl
