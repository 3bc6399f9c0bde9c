use Rattle.dsr_ledger.proofs.Common.{◌≡◌, [], length, ◌∙◌, rules}
use Rattle.dsr_ledger.proofs.FilesLemmas.{length-stand}
use Rattle.dsr_ledger.proofs.books.Books.opened.Goals as goal

pub returns-clause-stands : goal.returns-clause-stands
returns-clause-stands c = λ files h.
    let long : c.len.result ≡ length c.args.self.now.kept.files.items = search rules in
    long ∙ length-stand 1 [] c.args.self.now.kept.files.items files h.each
