-- The final value of a list whose last item is lent.
use Rattle.std.specs.Prelude.{◌-◌, List, [], ◌∷◌, ◌++◌, length, slice_set, Result}
use Rattle.std.specs.Borrow.{Lends, LendsIfOk, Fml, RattleType, MutBor}
use Rattle.dsr_texts.specs.contracts.inline_items.InlineItems.{the_row}

module _ (T N : RattleType) where
  -- once the borrow r ends, the last item is the final value of r
  abbrev pub lends_last : MutBor (List T.Denot) → MutBor T.Denot → Fml
  lends_last s r = Lends (the_row T N) T s r (slice_set s.now (length s.now - 1))

  -- once the borrow in r ends, the list is s with the final value of r appended; if r is an error, it is s
  abbrev pub lends_next : {E : Type 0} → MutBor (List T.Denot) → Result (MutBor T.Denot) E → Fml
  lends_next s r = LendsIfOk (the_row T N) T s r (λ w. s.now ++ w ∷ []) s.now
