-- The verdict of a block.
use Rattle.std.specs.Prelude.{is_some, find, ℕ, Bool, true, false, not, nat_lt, ◌==◌, List, [], ◌∷◌, ◌++◌, length, sum_by, sum}
use Rattle.std.specs.List.{list_any}
use Rattle.std.specs.Str.{bytes_eq}
use Rattle.dsr_cells.specs.meaning.Texts.{is_isrc_text}
use Rattle.dsr_events.specs.declared.record.Summary.{Summary}
use Rattle.dsr_events.specs.declared.record.Usage.{Usage}
use Rattle.dsr_events.specs.meaning.Blocks.{BlockParts}
use Rattle.dsr_events.specs.meaning.Works.{WorkParts}
use Rattle.dsr_ledger.specs.meaning.Limits.{whole_share}
use Rattle.dsr_ledger.specs.meaning.Files.{Filed, summaries_of}
use Rattle.dsr_ledger.specs.declared.verdict.Standing.{Standing}
use Rattle.dsr_ledger.specs.declared.verdict.Standing.TheVariants.{Ours, Foreign, Doubled, Headless}
use Rattle.dsr_ledger.specs.declared.verdict.Reason.{Reason}
use Rattle.dsr_ledger.specs.declared.verdict.Reason.TheVariants.{ForeignFile, DoubledFile, DoubledBlock, NoIsrc, BadIsrc, UnknownSummary, ShareOver}
use Rattle.dsr_ledger.specs.declared.verdict.Verdict.{Verdict}
use Rattle.dsr_ledger.specs.declared.verdict.Verdict.TheVariants.{Booked, Rejected}

-- rejected for the first reason that applies, booked if none does
abbrev pub first_reason : List (Bool × Reason) → Verdict
first_reason [] = Booked
first_reason ((true, reason) ∷ rest) = Rejected reason
first_reason ((false, reason) ∷ rest) = first_reason rest

abbrev pub is_foreign : Standing → Bool
is_foreign Foreign = true
is_foreign Ours = false
is_foreign Doubled = false
is_foreign Headless = false

abbrev pub is_doubled : Standing → Bool
is_doubled Doubled = true
is_doubled Ours = false
is_doubled Foreign = false
is_doubled Headless = false

-- a block has this BlockId
abbrev pub has_id : List ℕ → BlockParts → Bool
has_id id b = bytes_eq b.id id

abbrev pub names_unknown : (List ℕ → Bool) → Usage → Bool
names_unknown known u = not (known u.summary_id)

-- the sum of the shares of all works, in millionths: 1,000,000 is 100 percent
abbrev pub share_total : List WorkParts → ℕ
share_total works = sum_by (λ w. sum w.shares) works

-- the reasons to reject a block in a file with this standing, each with whether it applies, where `seen` says whether an
-- earlier block of the file has its BlockId, and `known` which summaries the file has; the shares of all its works may
-- add up to 100 percent, not more
abbrev pub reasons : Standing → Bool → (List ℕ → Bool) → BlockParts → List (Bool × Reason)
reasons stands seen known b =
    (is_foreign stands, ForeignFile)
    ∷ (is_doubled stands, DoubledFile)
    ∷ (seen, DoubledBlock)
    ∷ (length b.resource.isrc == 0, NoIsrc)
    ∷ (not (is_isrc_text b.resource.isrc), BadIsrc)
    ∷ (list_any (names_unknown known) b.usages, UnknownSummary)
    ∷ (nat_lt whole_share (share_total b.works), ShareOver)
    ∷ []

-- the verdict of a block, by these reasons
unfoldable pub verdict_by : Standing → Bool → (List ℕ → Bool) → BlockParts → Verdict
verdict_by stands seen known b = first_reason (reasons stands seen known b)

-- one of the summaries has this identifier
abbrev pub is_summary : List Summary → List ℕ → Bool
is_summary summaries id = is_some (find (λ s. bytes_eq id s.id) summaries)

-- the verdict of a block in a file with this standing, these summaries and these earlier blocks, booked or rejected
abbrev pub verdict : Standing → List Summary → List BlockParts → BlockParts → Verdict
verdict stands summaries earlier b = verdict_by stands (list_any (has_id b.id) earlier) (is_summary summaries) b

-- each block with its verdict, after the earlier blocks of the file
abbrev pub judged : Standing → List Summary → List BlockParts → List BlockParts → List (BlockParts × Verdict)
judged stands summaries earlier [] = []
judged stands summaries earlier (b ∷ bs) =
    (b, verdict stands summaries earlier b) ∷ judged stands summaries (earlier ++ b ∷ []) bs

-- the blocks of a file with their verdicts
abbrev pub judged_in : Filed → List (BlockParts × Verdict)
judged_in d = judged d.standing (summaries_of d.file.opening) [] d.file.blocks
