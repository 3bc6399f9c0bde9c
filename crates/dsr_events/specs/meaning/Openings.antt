-- Openings, as contracts see them.
use Rattle.std.specs.Prelude.{◌≡◌, Bool, true, ◌&&◌, not, List, [], ◌∷◌}
use Rattle.std.specs.List.{list_any}
use Rattle.std.specs.Str.{bytes_eq}
use Rattle.dsr_events.specs.declared.record.Head.{Head}
use Rattle.dsr_events.specs.declared.record.Summary.{Summary}

pub record OpeningParts : Type 0 where
  pub head : Head
  pub summaries : List Summary

-- no summary has the identifier of a later one
abbrev pub distinct : List Summary → Bool
distinct [] = true
distinct (s ∷ ss) = not (list_any (λ t. bytes_eq s.id t.id) ss) && distinct ss

abbrev pub HasDistinctIds : List Summary → Type 0
HasDistinctIds ss = distinct ss ≡ true
