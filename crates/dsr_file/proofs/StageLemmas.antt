-- A stage changes as the records do.
use Rattle.dsr_file.proofs.Common.{◌≡◌, ℕ, ◌∙◌, sym, ap, refl, List, [], ◌∷◌, length, map, unwrap_or, arith, length-append, length-map, id_of_record, kind_of_record, Record, BlockParts, OpensBlock, Stage, Start, Front, Open, Closed, last_of, summaries, column, member_fault, early_fault, last_part, in_part, column_at, block_length, stage_fault, stage_after, given_by, part_given, records_of, IsOpen, KeepsStage, OpeningParts, subst}
use Rattle.dsr_events.specs.declared.record.Record.TheVariants as the
use Rattle.dsr_events.specs.declared.record.Summary as summary
use Rattle.dsr_events.specs.declared.record.Head as head
use Rattle.dsr_file.specs.declared.stage.Before.TheVariants as columns
use Rattle.dsr_file.proofs.PartLemmas.{last_of_push}

-- the last record of a head and summaries
last_front : (h : head.Head) (ss : List summary.Summary) → column (last_of (the.Head h ∷ map the.Summary ss)) ≡ columns.Front
last_front h [] = refl
last_front h (s ∷ ss) = last_summary s ss
  where
    last_summary : (s : summary.Summary) (ss : List summary.Summary) → column (last_of (the.Summary s ∷ map the.Summary ss)) ≡ columns.Front
    last_summary s [] = refl
    last_summary s (t ∷ ss) = last_summary t ss

-- the column of the last record
pub column_kept : (stage : Stage) (rs : List Record) → KeepsStage stage rs → column (last_of rs) ≡ column_at stage
column_kept Start rs k = rw k refl
column_kept (Front o) rs k = rw k (last_front o.head o.summaries)
column_kept (Open b) rs k = k.column
column_kept Closed rs k = k

pub summaries_map : (ss : List summary.Summary) → summaries (map the.Summary ss) ≡ ss
summaries_map [] = refl
summaries_map (s ∷ ss) = ap (λ xs. s ∷ xs) (summaries_map ss)

-- the last part is that of the open block
last_part_kept : (b : BlockParts) (rs : List Record) → IsOpen b rs → last_part rs ≡ records_of b
last_part_kept b rs k = ap (λ ps. unwrap_or (last_of ps) []) k.parts ∙ ap (λ o. unwrap_or o []) (last_of_push (k.first ∷ k.before) (records_of b))

length_records : (b : BlockParts) → length (records_of b) ≡ block_length b
length_records b = simp (length-append, length-map) (omega arith)

in_part_kept : (b : BlockParts) (rs : List Record) (i : List ℕ) → IsOpen b rs → member_fault b.id (block_length b) i ≡ in_part (last_part rs) i
in_part_kept b rs i k =
    ap (λ j. member_fault j (block_length b) i) k.id
    ∙ ap (λ n. member_fault b.resource.block_id n i) (sym (length_records b))
    ∙ ap (λ part. in_part part i) (sym (last_part_kept b rs k))

-- the fault that the stage finds is that of the records
pub fault_agrees : (stage : Stage) (rs : List Record) (r : Record) → KeepsStage stage rs
    → stage_fault stage (kind_of_record r) (id_of_record r) ≡ early_fault rs r
fault_agrees stage rs r k = agree stage rs r (column_kept stage rs k) (λ o e. in_front o (subst (λ s. KeepsStage s rs) e k))
    (λ b i e. in_part_kept b rs i (subst (λ s. KeepsStage s rs) e k))
  where
    in_front : (o : OpeningParts) → KeepsStage (Front o) rs → summaries rs ≡ o.summaries
    in_front o k = ap summaries k ∙ summaries_map o.summaries

    agree : (stage : Stage) (rs : List Record) (r : Record) → column (last_of rs) ≡ column_at stage
        → ((o : OpeningParts) → stage ≡ Front o → summaries rs ≡ o.summaries)
        → ((b : BlockParts) (i : List ℕ) → stage ≡ Open b → member_fault b.id (block_length b) i ≡ in_part (last_part rs) i)
        → stage_fault stage (kind_of_record r) (id_of_record r) ≡ early_fault rs r
    agree stage rs r c f h = grind arith

-- the stage after a resource, and what the resource closes
pub opens_stage : (stage : Stage) (r : Record) (b : BlockParts) → OpensBlock r b → Open b ≡ stage_after stage r
opens_stage stage r b e = grind arith

pub opens_given : (stage : Stage) (r : Record) (b : BlockParts) → OpensBlock r b → part_given stage ≡ given_by stage r
opens_given stage r b e = grind arith
