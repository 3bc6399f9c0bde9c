-- The layout of the bytes that were read of a file is that of all its bytes.
use Rattle.dsr_command.proofs.Common.{◌≡◌, ◌∙◌, ◌<◌, ℕ, List, [], ◌++◌, None, Some, refl, ap, sym, subst, inl, inr, arith, length, length-append, append-nil}
use Rattle.std.specs.Prelude.{◌⊎◌, Option, Ok, Err}
use Rattle.std.specs.Io.KnownBytes.{Consumes, IsAtEnd}
use Rattle.dsr_records.specs.declared.fault.LayoutFault.TheVariants.{Large}
use Rattle.dsr_records.specs.meaning.Layouts.{layout_of}
use Rattle.dsr_records.specs.meaning.Records.{LayoutTable}
use Rattle.std.proofs.lemmas.Bool.{lt-ltb}
use Rattle.dsr_command.specs.LayoutFile.{IsTaken}

large : (bytes : List ℕ) → 65536 < length bytes → layout_of bytes ≡ Err (record { line = 1; fault = Large })
large bytes lt = rw (lt-ltb 65536 (length bytes) lt) refl

long : (bytes more : List ℕ) → length bytes ≡ 65537 → 65536 < length (bytes ++ more)
long bytes more is = simp (length-append, is) (omega arith)

layout_ended : (after : Option (List ℕ)) (bytes : List ℕ) (layout : LayoutTable) → layout_of bytes ≡ Ok layout
    → IsAtEnd after ⊎ (length bytes ≡ 65537) → IsAtEnd after
layout_ended after bytes layout is (inl at) = at
layout_ended after bytes layout is (inr most) =
    let many : 65536 < length bytes = omega (arith, most) in
    let not = large bytes many in
    absurd cc

-- all bytes of a layout were read
pub layout_end : (before after : Option (List ℕ)) (bytes : List ℕ) (layout : LayoutTable) → IsTaken before after bytes
    → layout_of bytes ≡ Ok layout → IsAtEnd after
layout_end before after bytes layout taken is = layout_ended after bytes layout is taken.whole

same_layout : (bytes more : List ℕ) → (more ≡ []) ⊎ (length bytes ≡ 65537) → layout_of bytes ≡ layout_of (bytes ++ more)
same_layout bytes more (inl none) = ap layout_of (sym (append-nil bytes) ∙ ap (λ m. bytes ++ m) (sym none))
same_layout bytes more (inr most) =
    let many : 65536 < length bytes = omega (arith, most) in
    large bytes many ∙ sym (large (bytes ++ more) (long bytes more most))

all_read : (all : List ℕ) (after : Option (List ℕ)) (bytes : List ℕ) → Consumes (Some all) after bytes → IsAtEnd after → bytes ≡ all
all_read all None bytes consumed at = absurd consumed
all_read all (Some left) bytes consumed at = sym (consumed ∙ (ap (λ l. bytes ++ l) at ∙ append-nil bytes))

layout_taken : (all : List ℕ) (after : Option (List ℕ)) (bytes : List ℕ) → Consumes (Some all) after bytes
    → IsAtEnd after ⊎ (length bytes ≡ 65537) → layout_of bytes ≡ layout_of all
layout_taken all None bytes consumed whole = absurd consumed
layout_taken all (Some left) bytes consumed whole = same_layout bytes left whole ∙ ap layout_of (sym consumed)

-- all these bytes were read
pub taken_all : (before after : Option (List ℕ)) (all bytes : List ℕ) → before ≡ Some all → Consumes before after bytes → IsAtEnd after → bytes ≡ all
taken_all before after all bytes is consumed at = all_read all after bytes (subst (λ b. Consumes b after bytes) is consumed) at

-- the layout of what was read of these bytes is theirs
pub layout_all : (before after : Option (List ℕ)) (all bytes : List ℕ) → before ≡ Some all → IsTaken before after bytes
    → layout_of bytes ≡ layout_of all
layout_all before after all bytes is taken = layout_taken all after bytes (subst (λ b. Consumes b after bytes) is taken.consumed) taken.whole
