use Rattle.tv_machine.specs.Living.{is_busy}
use Rattle.tv_store.proofs.CrashLaws.{closed_sound}
use Rattle.tv_store.proofs.laws.crashes.a_closed_store_is_sound.Goals as goal

pub returns : goal.returns
returns g c tells locks before after sound_before sound_after safe others =
    let D = g.O.Directory in
    closed_sound c.args.store.kept.form before after D.told (D.view c.args.store.outside) (D.view c.into_outside.result) (D.disk c.args.store.outside) (D.disk c.into_outside.result) locks sound_before sound_after safe
    (c.into_outside.ensures.images tells) (is_busy c.args.store.kept.catalog) c.into_outside.ensures.frees others
