-- What a source gave is within what a run reads.
use Rattle.dsr_laws.proofs.Common.{AllByRecursion, Ending, EndsAs, File, FileText, GaveEach, GaveText, IsReadable, IsReading, LayoutTable, List, None, Option, Options, Report, ReportKey, Some, Told, [], ap, append-nil, arith, each_map, each_weaker, events_of_text, file_line, file_of, filed, inl, inr, length, length-map, map, refl, refusal_of, report_again, report_of, report_of_texts, statement_lines, statement_of, subst, suc, without_report, ℕ, ◌++◌, ◌^◌, ◌∷◌, ◌≡◌, ◌≤◌}
use Rattle.dsr_events.specs.declared.fault.Ending.TheVariants as endings
use Rattle.dsr_laws.specs.layer.Again.{AreRunTexts, lines_if, reading_of_report}
use Rattle.dsr_laws.proofs.Files.{IsFile, file_of_text}
use Rattle.dsr_laws.proofs.Readable.{length_filed, readable}

-- the file of a text
abbrev file_by : LayoutTable → FileText → File
file_by layout text = file_of (events_of_text layout text)

-- the text of a report that is readable if it has a key
if_key : (r : Report) → ((key : ReportKey) → r.key ≡ Some key → IsReadable key r) → (o : Option ReportKey) → r.key ≡ o
    → IsReading (statement_of r) (lines_if o (statement_lines r))
if_key r h None e = without_report r e
if_key r h (Some key) e = report_again key r (h key e)

-- the report of texts that have files
module _ (layout : LayoutTable) (texts : List FileText) (few : length texts ≤ 64) (files : AllByRecursion IsFile (map (file_by layout) texts)) where
  key_readable : (key : ReportKey) → (report_of_texts layout texts).key ≡ Some key → IsReadable key (report_of_texts layout texts)
  unfolding report_of_texts
  key_readable key e = readable (map (file_by layout) texts) key (omega (arith, few, length-map texts (file_by layout))) files e

  again : IsReading (statement_of (report_of_texts layout texts)) (reading_of_report (report_of_texts layout texts))
  again = if_key (report_of_texts layout texts) key_readable (report_of_texts layout texts).key refl

files_of : (layout : LayoutTable) (texts : List FileText) → AreRunTexts texts → AllByRecursion IsFile (map (file_by layout) texts)
files_of layout texts h = each_map IsFile (file_by layout) texts (each_weaker (λ (t : FileText). length t.bytes ≤ 2 ^ 36) _ (file_of_text layout) texts h.short)

pub texts_readable : (layout : LayoutTable) (texts : List FileText) (key : ReportKey) → AreRunTexts texts → (report_of_texts layout texts).key ≡ Some key
    → IsReadable key (report_of_texts layout texts)
texts_readable layout texts key h e = key_readable layout texts h.few (files_of layout texts h) key e

pub texts_again : (layout : LayoutTable) (texts : List FileText) → AreRunTexts texts
    → IsReading (statement_of (report_of_texts layout texts)) (reading_of_report (report_of_texts layout texts))
texts_again layout texts h = again layout texts h.few (files_of layout texts h)

pub files_few : (layout : LayoutTable) (texts : List FileText) → AreRunTexts texts → length (report_of_texts layout texts).files ≤ 64
unfolding report_of_texts report_of
files_few layout texts h =
    let files = map (file_by layout) texts in
    omega (arith, h.few, length-map texts (file_by layout), length_filed 1 [] files, length-map (filed files) file_line)

-- how the bytes of a source ended: no more reads gave some than were allowed
filled_few : (limit : ℕ) (after : Told) (reads filled : ℕ) (ending : Ending) → reads ≤ limit → EndsAs limit after reads filled ending → filled ≤ limit
filled_few limit after reads filled endings.Reads few h = omega (arith, h.1)
filled_few limit after reads filled _ few h = omega (arith, h.0)

given_file : (layout : LayoutTable) (limit : ℕ) (before after : Told) (text : FileText) → limit ≤ 16777216 → GaveText layout limit before after text
    → IsFile (file_by layout text)
given_file layout limit before after text low (inl (gave, ends, so_far)) =
    let few = filled_few limit after gave.reads gave.filled text.ending gave.limited ends in
    file_of_text layout text (omega (arith, gave.most))
given_file layout limit before after text low (inr (given, stopped, begins, settled)) =
    let (gave, all, sound, so_far) = stopped in
    let same = settled [] text.ending in
    let bytes : length (given ++ []) ≤ 2 ^ 36 = omega (arith, gave.most, gave.limited, ap length (append-nil given)) in
    subst (λ es. IsFile (file_of es)) same (file_of_text layout (record { bytes = given ++ []; ending = text.ending }) bytes)

-- the options were not refused
few_files : (files : ℕ) (options : Options) → refusal_of files options ≡ None → (files ≤ 64) × (options.max_reads ≤ 16777216)
few_files files o e = grind arith

module _ {R : Type 0} (told : R → Told) (options : Options) (low : options.max_reads ≤ 16777216) where
  given_files : (readers left : List R) (texts : List FileText) → GaveEach told options readers left texts
      → AllByRecursion IsFile (map (file_by options.layout) texts) × (length texts ≡ length readers)
  given_files [] [] [] h = (tt, refl)
  given_files (r ∷ rs) (s ∷ ss) (t ∷ ts) h =
      let rest = given_files rs ss ts h.1 in
      ((given_file options.layout options.max_reads (told r) (told s) t low h.0, rest.0), ap suc rest.1)
  given_files _ _ _ h = absurd h

pub run_again : {R : Type 0} (told : R → Told) (options : Options) (readers left : List R) (texts : List FileText) → refusal_of (length readers) options ≡ None
    → GaveEach told options readers left texts
    → IsReading (statement_of (report_of_texts options.layout texts)) (reading_of_report (report_of_texts options.layout texts))
run_again told options readers left texts allowed gave =
    let few = few_files (length readers) options allowed in let files = given_files told options few.1 readers left texts gave in
    again options.layout texts (omega (arith, few.0, files.1)) files.0
