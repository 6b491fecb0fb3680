use Rattle.std.proofs.Common.{rules, append_assoc}
use Rattle.tv_metas.proofs.printing.write_settings.Goals.{then-not-settings+in_ok-key-2+in_ok-boolean, else-not-settings}
use Rattle.tv_metas.proofs.printing.write_settings.Goals as goal

pub returns : goal.returns
returns c = elim c.if-not-settings.branch [
  | then-not-settings+in_ok-key-2+in_ok-boolean w ↦ (
    search rules,
    rw (
      c.in_ok-end_object.ensures.ok,
      c.in_ok-u64.ensures.ok,
      c.in_ok-key-3.ensures.ok,
      w.out-is,
      w.in_ok-boolean.ensures.ok,
      w.in_ok-key-2.ensures.ok,
      c.in_ok-string.ensures.ok,
      c.in_ok-key.ensures.ok,
      c.in_ok-begin_object.ensures.ok,
      w.if-not-settings.true,
    )
        (simp append_assoc),
  )
  | else-not-settings w ↦ (
    search rules,
    rw (
      c.in_ok-end_object.ensures.ok,
      c.in_ok-u64.ensures.ok,
      c.in_ok-key-3.ensures.ok,
      w.out-is,
      c.in_ok-string.ensures.ok,
      c.in_ok-key.ensures.ok,
      c.in_ok-begin_object.ensures.ok,
      w.if-not-settings.false,
    )
        (simp append_assoc),
  )
]
