use Rattle.tv_replay.proofs.Benches.{pair_found, pair_passed}
use Rattle.tv_replay.proofs.bench_place.bytes_at.Goals as goal

pub returns-then-eq : goal.returns-then-eq
returns-then-eq c =
    let same = rw c.as_str.ensures.value at c.if-eq.ensures in
    pair_found c.args.pairs.now c.loop-name.name-index c.loop-name-item.result c.args.path.now c.as_slice.result.now c.loop-name-test.true c.loop-name-item.is c.loop-name.invariant same c.as_slice.ensures.value

pub loop-name-preserved : goal.loop-name-preserved
loop-name-preserved c =
    let other = rw c.as_str.ensures.value at c.if-eq.ensures in
    pair_passed c.args.pairs.now c.loop-name.name-index c.loop-name-item.result c.args.path.now c.loop-name-test.true c.loop-name-item.is c.loop-name.invariant other
