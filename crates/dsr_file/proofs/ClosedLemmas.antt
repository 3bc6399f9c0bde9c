-- What is closed, by whether something is.
use Rattle.dsr_file.proofs.Common.{◌≡◌, false, refl, Option, None, Some, is_some}

pub not_some : {A : Type 0} (o : Option A) → is_some o ≡ false → o ≡ None
not_some None e = refl
not_some (Some x) e = absurd (cc)
