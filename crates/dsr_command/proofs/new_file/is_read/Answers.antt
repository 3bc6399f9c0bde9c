use Rattle.dsr_command.proofs.Common.{◌≡◌, ◌≢◌, All, Some, arith, slice_index_or, subst, rules, take_all}
use Rattle.dsr_command.proofs.Apart.{apart_more, none_read, one_beside, one_read}
use Rattle.dsr_command.proofs.new_file.is_read.Goals as goal

pub returns-then-contains-clause-read : goal.returns-then-contains-clause-read
returns-then-contains-clause-read g c =
    let at = c.if-contains.ensures.cases in
    let here = at.2 (Some c.args.file) in
    let is : slice_index_or c.args.besides.now at.0 (Some c.args.file) ≡ Some c.args.file = search rules in
    λ _. one_beside g.R.FileSource.file c.args.besides.now c.args.sources.now c.args.file at.0 at.1 is

pub returns-then-eq-clause-read : goal.returns-then-eq-clause-read
returns-then-eq-clause-read g c =
    let item = c.source-item.result in
    let is : g.R.FileSource.file item ≡ Some c.args.file = search rules in
    λ _. one_read g.R.FileSource.file c.args.besides.now c.args.sources.now c.args.file c.loop-source.source-index item c.loop-source-test.true
    (subst (λ r. g.R.FileSource.file r ≡ Some c.args.file) c.source-item.is is)

pub loop-source-preserved : goal.loop-source-preserved
loop-source-preserved g c =
    let sources = c.args.sources.now in
    let k = c.loop-source.source-index in
    let item = c.source-item.result in
    let not : g.R.FileSource.file item ≢ Some c.args.file = search rules in
    apart_more g.R.FileSource.file sources k item c.args.file c.loop-source-test.true c.loop-source.invariant
    (subst (λ r. g.R.FileSource.file r ≢ Some c.args.file) c.source-item.is not)

pub returns-clause-apart : goal.returns-clause-apart
returns-clause-apart g c =
    let sources = c.args.sources.now in
    let not : All (λ x. x ≢ Some c.args.file) c.args.besides.now =
    λ k d lt. let other = c.if-contains.ensures.cases k d (omega arith) lt in search rules in
    λ _. none_read g.R.FileSource.file c.args.besides.now sources c.args.file not
    (subst (All (λ r. g.R.FileSource.file r ≢ Some c.args.file)) (take_all c.loop-source.source-index sources c.loop-source-test.false) c.loop-source.invariant)
