-- A feed after its batch was sent.
use Rattle.dsr_relay.proofs.Common.{◌≡◌, ℕ, ◌≤◌, true, false, List, [], ◌∷◌, ◌++◌, length, refl, sym, ap, ◌∙◌, arith, length-append, Placed, block_event, Log, Sends, Message, events_of, out_of, goes_out, batch_after}
use Rattle.dsr_events.specs.meaning.Blocks.{BlockParts}
use Rattle.dsr_relay.proofs.Messages.{append_nil, events_of-push}

pub sends_again : (v : Log) (ms : List Message) (n : ℕ) → v ≡ Sends ms n → v ≡ Sends (out_of v) n
sends_again v ms n e = e ∙ ap (λ u. Sends (out_of u) n) (sym e)

-- the events sent are the same after the batch became a message
pub sent_out : (v w : Log) (n : ℕ) (m : Message) (batch rest : List Placed) → w ≡ Sends (out_of v ++ m ∷ []) n → m ≡ batch → rest ≡ []
    → events_of (out_of w) ++ rest ≡ events_of (out_of v) ++ batch
sent_out v w n m batch rest e same none =
    ap (λ l. events_of (out_of w) ++ l) none ∙ append_nil (events_of (out_of w)) ∙ ap (λ u. events_of (out_of u)) e ∙ events_of-push (out_of v) m
    ∙ ap (λ l. events_of (out_of v) ++ l) same

-- a batch that is not sent with this event has room for another one
pub has_room : (batch : List Placed) (e : Placed) → goes_out batch e ≡ false → length batch ≤ 31 → length batch ≤ 30
has_room batch e h most = grind arith

pub batch_goes : (batch : List Placed) (e : Placed) → goes_out batch e ≡ true → batch_after batch e ≡ []
batch_goes batch e h = rw h refl

-- a batch of which a block is the 32nd event is sent with it
pub full_goes : (batch : List Placed) (place : ℕ) (block : BlockParts) → 32 ≤ length (batch ++ block_event place block ∷ []) → length batch ≤ 31
    → goes_out batch (block_event place block) ≡ true
full_goes batch place block full most =
    let is : length batch ≡ 31 = omega (arith, full, most, length-append batch (block_event place block ∷ [])) in
    rw is refl
