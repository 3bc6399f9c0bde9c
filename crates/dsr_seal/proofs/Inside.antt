-- From what a counting outlet took to what the outlet inside took, by way of `Counted::new` and `Counted::into_outlet`.
use Rattle.std.proofs.Common.{ℕ, List, ◌∙◌}
use Rattle.std.proofs.KnownBytes.{Appends-kept}
use Rattle.dsr_io.specs.meaning.Written.{Written, IsFlushed, IsCut}
use Rattle.dsr_io.specs.layer.Written.{IsTaken}
use Rattle.dsr_seal.specs.layer.Counts.{IsInside}

module _ (bytes : List ℕ) (before counted out : Written) (inside : IsInside counted out) where
  pub taken_inside : IsTaken bytes before counted → IsTaken bytes before out
  taken_inside h = record {
    added = Appends-kept before.contents counted.contents out.contents bytes h.added inside.held;
    counted = (inside.taken ∙ h.counted.0, h.counted.1);
    sound = inside.failed ∙ h.sound;
    flushes = inside.flushes ∙ h.flushes;
  }

  pub flushed_inside : IsFlushed bytes before counted → IsFlushed bytes before out
  flushed_inside h = record {
    added = Appends-kept before.contents counted.contents out.contents bytes h.added inside.held;
    counted = (inside.taken ∙ h.counted.0, h.counted.1);
    sound = inside.failed ∙ h.sound;
    once = inside.flushes ∙ h.once;
    at_the_end = inside.unflushed ∙ h.at_the_end;
  }

  pub cut_inside : IsCut bytes before counted → IsCut bytes before out
  cut_inside h = record {
    added = Appends-kept before.contents counted.contents out.contents bytes h.added inside.held;
    counted = (inside.taken ∙ h.counted.0, h.counted.1);
    failed = inside.failed ∙ h.failed;
    flushes = inside.flushes ∙ h.flushes;
  }
