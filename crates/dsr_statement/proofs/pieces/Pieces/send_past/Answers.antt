use Rattle.dsr_statement.proofs.Common.{◌++◌, ◌∙◌, refl, append-nil}
use Rattle.dsr_statement.proofs.Sending.{all_sent_too}
use Rattle.dsr_statement.proofs.pieces.Pieces.send_past.Goals as goal

pub returns : goal.returns
returns g c =
    let waited = c.send_waiting in
    record {
      same_outlet = c.send.ensures.same_outlet ∙ waited.ensures.nothing.same_outlet;
      holds = λ put before h.
          let sent = all_sent_too g.W.Outlet.told c.args.self.now waited.new.self put before waited.ensures.empty waited.ensures.nothing h in
          (put ++ c.args.bytes.now, c.send.ensures.sent put before sent, rw (waited.ensures.empty, append-nil (put ++ c.args.bytes.now)) refl);
    }
