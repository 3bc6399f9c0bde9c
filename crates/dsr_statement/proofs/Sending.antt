-- What was written, step by step.
use Rattle.dsr_statement.proofs.Common.{arith, ◌≡◌, ℕ, ◌+◌, ◌-◌, ◌^◌, ◌≤◌, ◌++◌, List, length, take, min, true, false, ◌∙◌, ap, sym, subst, refl, [], append_assoc, length-append, Result, Ok, Err, IfErr, append-nil, take-append-le, length-take-le, Written, IsTaken, IsCut, IsBroken, IsSent, Holds, Puts, Pieces}
use Rattle.std.specs.Result.{OnOk}
use Rattle.std.proofs.Math.Seq.{take-append-add}
use Rattle.dsr_io.proofs.Taken.{taken_more, cut_after}

-- what the outlet has counted fits into the count of what was written
pub sent_after : (sent bytes : List ℕ) (w v : ℕ) (a b c : Written)
    → IsSent false sent w a b → IsTaken bytes b c → v ≡ min (w + length bytes) (2 ^ 64 - 1) → IsSent false (sent ++ bytes) v a c
sent_after sent bytes w v a b c h t e =
    let all = taken_more a b c sent bytes h.taken t in
    record { taken = all; count = e ∙ omega (arith, h.count, all.counted, length-append sent bytes) }

pub broken_after : (sent bytes : List ℕ) (w k v : ℕ) (a b c : Written)
    → IsSent false sent w a b → (k ≤ length bytes) × IsCut (take k bytes) b c → v ≡ min (w + k) (2 ^ 64 - 1) → IsSent true (sent ++ bytes) v a c
broken_after sent bytes w k v a b c h t e =
    let all = cut_after a b c sent (take k bytes) h.taken t.1 in
    let is : v ≡ length sent + k =
    e ∙ omega (arith, h.count, all.counted, length-append sent (take k bytes), length-take-le k bytes t.0) in
    subst (λ n. IsBroken (sent ++ bytes) n a c) (sym is) record {
      part = omega (arith, t.0, length-append sent bytes);
      cut = rw (take-append-add sent bytes k) all;
    }

-- once the outlet has failed, more may count as sent
pub broken_more : (sent bytes : List ℕ) (n : ℕ) (a b : Written) → IsBroken sent n a b → IsBroken (sent ++ bytes) n a b
broken_more sent bytes n a b h =
    record { part = omega (arith, h.part, length-append sent bytes); cut = rw (take-append-le n sent bytes h.part) h.cut }

module _ {W : Type 0} (told : W → Written) where
  -- what is put once the outlet has failed and nothing waits
  pub put_failed : (p q : Pieces W) (bytes : List ℕ) → p.sender.failed ≡ true → q.sender ≡ p.sender → q.waiting ≡ [] → Puts told p q bytes
  put_failed p q bytes failed same empty = record {
    same_outlet = ap (λ s. s.out.ghost_name) same;
    holds = λ put before h.
        let was : IsBroken h.0 p.sender.written before (told p.sender.out.now) = rw failed at h.1 in
        let now : IsBroken (h.0 ++ (p.waiting ++ bytes)) p.sender.written before (told p.sender.out.now)
        = broken_more h.0 (p.waiting ++ bytes) p.sender.written before _ was in
        (put ++ bytes, rw (same, failed, h.2, append_assoc h.0 p.waiting bytes) now, rw (empty, append-nil (put ++ bytes)) refl);
  }

  -- if nothing waits, what was put was sent
  pub all_sent : (p : Pieces W) (put : List ℕ) (before : Written) → p.waiting ≡ [] → Holds told put before p
      → IsSent p.sender.failed put p.sender.written before (told p.sender.out.now)
  all_sent p put before empty h = let e : put ≡ h.0 = h.2 ∙ rw (empty, append-nil h.0) refl in rw e h.1

  -- the same after what waited was sent
  pub all_sent_too : (p q : Pieces W) (put : List ℕ) (before : Written) → q.waiting ≡ [] → Puts told p q [] → Holds told put before p
      → IsSent q.sender.failed put q.sender.written before (told q.sender.out.now)
  all_sent_too p q put before empty puts h = all_sent q put before empty (rw (append-nil put) at (puts.holds put before h))

pub if_ok : {T E : Type 0} (r : Result T E) {P Q : Type 0} → (P → Q) → OnOk r P → OnOk r Q
if_ok (Ok _) go p = go p
if_ok (Err _) go p = p

pub if_err : {T E : Type 0} (r : Result T E) {P Q : E → Type 0} → ((e : E) → P e → Q e) → IfErr r P → IfErr r Q
if_err (Ok _) go p = p
if_err (Err e) go p = go e p
