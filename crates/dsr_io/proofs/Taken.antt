-- What an outlet took in several calls.
use Rattle.std.proofs.Common.{◌≡◌, ◌∙◌, ◌+◌, ℕ, List, [], ◌++◌, length, false, true, ap, arith, refl, length-append}
use Rattle.std.specs.Io.KnownBytes.{Keeps}
use Rattle.std.proofs.KnownBytes.{Appends-kept, Appends-nil, Appends-trans}
use Rattle.dsr_io.specs.meaning.Written.{Written, Counts, IsFlushed, IsCut}
use Rattle.dsr_io.specs.layer.Written.{IsTaken}

counts_more : (a b c : Written) (xs ys : List ℕ) → Counts (length xs) a b → Counts (length ys) b c → Counts (length (xs ++ ys)) a c
counts_more a b c xs ys first second = rw (length-append xs ys) (omega (arith, first, second), omega (arith, first, second))

pub taken_none : (w : Written) → IsTaken [] w w
taken_none w = record { added = Appends-nil w.contents; counted = (omega arith, omega arith); sound = refl; flushes = refl }

pub taken_more : (a b c : Written) (xs ys : List ℕ) → IsTaken xs a b → IsTaken ys b c → IsTaken (xs ++ ys) a c
taken_more a b c xs ys first second =
    record {
      added = Appends-trans a.contents b.contents c.contents xs ys first.added second.added;
      counted = counts_more a b c xs ys first.counted second.counted;
      sound = second.sound ∙ first.sound;
      flushes = second.flushes ∙ first.flushes;
    }

pub cut_after : (a b c : Written) (xs ys : List ℕ) → IsTaken xs a b → IsCut ys b c → IsCut (xs ++ ys) a c
cut_after a b c xs ys first second =
    record {
      added = Appends-trans a.contents b.contents c.contents xs ys first.added second.added;
      counted = counts_more a b c xs ys first.counted second.counted;
      failed = second.failed;
      flushes = second.flushes ∙ first.flushes;
    }

-- the bytes were taken, and then a flush succeeded
pub flushed_after : (a b c : Written) (xs : List ℕ) → IsTaken xs a b → Keeps b.contents c.contents × (c.taken ≡ b.taken) → c.failed ≡ b.failed
    → (c.flushes ≡ b.flushes + 1) × (c.unflushed ≡ false) → IsFlushed xs a c
flushed_after a b c xs taken kept sound once =
    record {
      added = Appends-kept a.contents b.contents c.contents xs taken.added kept.0;
      counted = (kept.1 ∙ taken.counted.0, taken.counted.1);
      sound = sound ∙ taken.sound;
      once = once.0 ∙ ap (λ n. n + 1) taken.flushes;
      at_the_end = once.1;
    }

-- the bytes were taken, and then a flush failed
pub cut_at_flush : (a b c : Written) (xs : List ℕ) → IsTaken xs a b → Keeps b.contents c.contents × (c.taken ≡ b.taken) → c.failed ≡ true
    → c.flushes ≡ b.flushes → IsCut xs a c
cut_at_flush a b c xs taken kept failed flushes =
    record {
      added = Appends-kept a.contents b.contents c.contents xs taken.added kept.0;
      counted = (kept.1 ∙ taken.counted.0, taken.counted.1);
      failed = failed;
      flushes = flushes ∙ taken.flushes;
    }
