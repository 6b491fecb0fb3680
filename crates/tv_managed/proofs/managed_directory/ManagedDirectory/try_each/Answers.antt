use Rattle.std.proofs.Common.{rules}
use Rattle.tv_managed.proofs.Trying.{fewer_left, some_next, some_none, some_wanted}
use Rattle.tv_managed.proofs.managed_directory.ManagedDirectory.try_each.Goals as goal

pub loop-self-init : goal.loop-self-init
loop-self-init g c = record { some = λ before names is number. some_none g.D.Directory before names c.args.self.now is (search rules); only = search rules }

pub loop-self-smaller : goal.loop-self-smaller
loop-self-smaller g c = fewer_left g.D.Directory c.args.number c.loop-self.self c.try_next.new.self c.in_ok-try_next.field-0 (c.has_left.ensures.left c.loop-self-test.true) c.in_ok-try_next.ensures.notes

pub loop-self-preserved : goal.loop-self-preserved
loop-self-preserved g c =
    let only = c.in_ok-try_next.ensures.only in
    let left = c.has_left.ensures.left c.loop-self-test.true in
    record {
      some = λ before names is number. some_next g.D.Directory before names c.args.number c.in_ok-try_next.field-0 number left c.in_ok-try_next.ensures.notes only c.in_ok-try_next.ensures.safe (c.loop-self.invariant.some before names is number);
      only = search rules;
    }

pub returns-in_err-try_next-clause-leaves : goal.returns-in_err-try_next-clause-leaves
returns-in_err-try_next-clause-leaves g c = λ before names is number.
    some_wanted g.D.Directory before names c.args.number _ number (c.has_left.ensures.left c.loop-self-test.true) c.in_err-try_next.ensures.err c.in_err-try_next.ensures.safe (c.loop-self.invariant.some before names is number)
