use Rattle.dsr_command.proofs.Common.{◌≡◌, ◌∙◌, ap, sym, subst, IfOk, [], Some, None, map, option_map, unwrap_or, rules, all_of, found_of, rows_of}
use Rattle.clap.proofs.WalkLemmas.{raw_values-rows}
use Rattle.dsr_command.proofs.arguments.read_names.Goals as goal

pub returns-in-Some : goal.returns-in-Some
returns-in-Some c =
    let f = found_of c.args.matches.now in
    let all : Some (map (λ v. v.now) c.in-Some.words.now) ≡ all_of c.args.id.now (rows_of f) =
    ap (option_map (λ s. map (λ v. v.now) s.now)) (sym c.in-Some.is) ∙ (c.get_strs.ensures ∙ raw_values-rows f c.args.id.now) in
    subst (λ o. IfOk c.copy_names.result (λ names. names ≡ unwrap_or o [])) all c.copy_names.ensures

pub returns-in-None : goal.returns-in-None
returns-in-None c =
    let f = found_of c.args.matches.now in
    let all : None ≡ all_of c.args.id.now (rows_of f) =
    ap (option_map (λ s. map (λ v. v.now) s.now)) (sym c.in-None.is) ∙ (c.get_strs.ensures ∙ raw_values-rows f c.args.id.now) in
    subst (λ o. c.new.result ≡ unwrap_or o []) all (search rules)
