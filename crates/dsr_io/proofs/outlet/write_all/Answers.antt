use Rattle.std.proofs.Common.{◌≡◌, ◌-◌, length, take, drop, subst, arith, length-drop, length-take}
use Rattle.std.proofs.lemmas.List.{take_all}
use Rattle.std.proofs.Math.Seq.{take-add}
use Rattle.std.specs.Io.KnownBytes.{Appends}
use Rattle.std.proofs.lemmas.Grind.{common_steps}
use Rattle.dsr_io.proofs.Taken.{taken_more}
use Rattle.dsr_io.proofs.outlet.write_all.Goals as goal

pub loop-written-preserved : goal.loop-written-preserved
loop-written-preserved g c =
    let a = g.W.Outlet.told c.args.out.now in
    let b = g.W.Outlet.told c.loop-written.out in
    let d = g.W.Outlet.told c.write.new.self in
    let w = c.loop-written.written in
    let n = c.in-Ok.n in
    let bs = c.args.bytes.now in
    let count = c.in-Ok.ensures.count in
    let whole : take (length bs - w) (drop w bs) ≡ drop w bs = take_all (length bs - w) (drop w bs) (omega (arith, length-drop w bs)) in
    record {
      within = grind (arith, common_steps);
      taken = rw (take-add w n bs) (taken_more a b d (take w bs) (take n (drop w bs)) c.loop-written.invariant.taken record {
        added = subst (λ l. Appends b.contents d.contents (take n l)) whole c.in-Ok.ensures.bytes;
        counted = (omega (arith, count, length-take n (drop w bs), length-drop w bs), omega (arith, count, length-take n (drop w bs), length-drop w bs));
        sound = c.in-Ok.ensures.failed;
        flushes = c.in-Ok.ensures.flushes.0;
      });
    }
