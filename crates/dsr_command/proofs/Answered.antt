-- The answer to an error of clap's.
use Rattle.dsr_command.proofs.Common.{◌∙◌, ap, sym, inl, inr, true≢false, Answers, IsFaultOf, is_request}
use Rattle.clap.specs.Kinds.{Kinds, HasKind}
use Rattle.clap.specs.Values.{kind_of}
use Rattle.clap.specs.declared.error.Error.{Error}
use Rattle.dsr_command.specs.declared.command.CommandFault.{CommandFault}
use Rattle.dsr_command.specs.declared.command.CommandFault.TheVariants.{Help, Refused, Memory}

-- the error that clap returned, and its answer
pub answered : (kinds : Kinds) (e : Error) (f : CommandFault) → HasKind kinds e → Answers (kind_of e) f → IsFaultOf kinds f
answered kinds e (Help text) (inl memory) a = absurd (true≢false (sym a ∙ ap is_request memory))
answered kinds e (Help text) (inr among) a = (kind_of e, among, a)
answered kinds e (Refused text) (inl memory) a = absurd (a.1 memory)
answered kinds e (Refused text) (inr among) a = (kind_of e, among, a.0)
answered kinds e Memory h a = tt
