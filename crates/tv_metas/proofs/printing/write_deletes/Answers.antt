use Rattle.std.proofs.Common.{rules, append_assoc}
use Rattle.tv_metas.proofs.printing.write_deletes.Goals as goal

pub returns : goal.returns
returns c = (
  search rules,
  rw (
    c.in_ok-end_object.ensures.ok,
    c.in_ok-u64-2.ensures.ok,
    c.in_ok-key-2.ensures.ok,
    c.in_ok-u64.ensures.ok,
    c.from.ensures,
    c.in_ok-key.ensures.ok,
    c.in_ok-begin_object.ensures.ok,
    c.in-Some.is,
  )
      (simp append_assoc),
)
