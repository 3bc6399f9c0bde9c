-- A file that is one of those that are read, or none of them.
use Rattle.dsr_command.proofs.Common.{◌≡◌, ◌≢◌, ◌∙◌, ◌+◌, ◌<◌, ◌++◌, ℕ, List, All, Some, arith, length, length-append, map, refl, take, sym, subst, slice_index_or, take_more, All-push}
use Rattle.std.specs.Prelude.{Option}
use Rattle.std.specs.List.{Any}
use Rattle.std.proofs.lemmas.List.{get_or_append_left, get_or-append-add, get_or-map, length-map}
use Rattle.std.proofs.lemmas.List.Elements.{All-append, All-map}
use Rattle.dsr_command.specs.declared.identity.FileIdentity.{FileIdentity}

module _ {R : Type 0} (file : R → Option FileIdentity) (besides : List (Option FileIdentity)) (sources : List R) (f : FileIdentity) where
  -- the other file at this place is it
  pub one_beside : (k : ℕ) → k < length besides → slice_index_or besides k (Some f) ≡ Some f → Any (λ x. x ≡ Some f) (besides ++ map file sources)
  one_beside k lt is =
      (k, Some f, omega (arith, lt, length-append besides (map file sources)), get_or_append_left besides (map file sources) (Some f) k lt ∙ is, refl)

  -- the source at this place is it
  pub one_read : (k : ℕ) (d : R) → k < length sources → file (slice_index_or sources k d) ≡ Some f → Any (λ x. x ≡ Some f) (besides ++ map file sources)
  one_read k d lt is =
      let x = file (slice_index_or sources k d) in (
        length besides + k,
        x,
        omega (arith, lt, length-append besides (map file sources), length-map sources file),
        get_or-append-add besides (map file sources) k x ∙ get_or-map file sources k d x lt,
        is,
      )

  -- none is it
  pub none_read : All (λ x. x ≢ Some f) besides → All (λ r. file r ≢ Some f) sources → All (λ x. x ≢ Some f) (besides ++ map file sources)
  none_read not apart =
      All-append (λ x. x ≢ Some f) besides (map file sources) not (All-map (λ x. x ≢ Some f) file sources apart)

-- no source up to this one is it
pub apart_more : {R : Type 0} (file : R → Option FileIdentity) (sources : List R) (k : ℕ) (d : R) (f : FileIdentity) → k < length sources
    → All (λ r. file r ≢ Some f) (take k sources) → file (slice_index_or sources k d) ≢ Some f
    → All (λ r. file r ≢ Some f) (take (k + 1) sources)
apart_more file sources k d f lt apart not =
    subst (All (λ r. file r ≢ Some f)) (sym (take_more sources k d lt))
    (All-push (λ r. file r ≢ Some f) (take k sources) (slice_index_or sources k d) apart not)
