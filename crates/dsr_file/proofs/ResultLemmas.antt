-- A result whose error is the event that the sink refused.
use Rattle.dsr_file.proofs.Common.{Result, Ok, Err, IfOk, IfErr, Placed}
use Rattle.dsr_file.specs.declared.reading.ReadFileError.{ReadFileError}
use Rattle.dsr_file.specs.declared.reading.ReadFileError.TheVariants.{Refused}
use Rattle.dsr_file.specs.layer.Sources.{refused_event}

module _ {O : Type 0} where
  pub if_refused : (r : Result O Placed) (Q : Placed → Type 0) (P : ReadFileError → Type 0)
      → ((e : Placed) → Q e → P (Refused e)) → IfErr r Q → IfErr (refused_event r) P
  if_refused (Ok o) Q P then is = is
  if_refused (Err e) Q P then is = then e is

  pub if_given : (r : Result O Placed) (Q P : O → Type 0) → ((o : O) → Q o → P o) → IfOk r Q → IfOk (refused_event r) P
  if_given (Ok o) Q P then is = then o is
  if_given (Err e) Q P then is = is
