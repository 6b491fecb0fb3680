use Rattle.std.proofs.Common.{◌∙◌, refl}
use Rattle.tv_index.proofs.RamIndexes.{managed_one, no_others, only_memory}
use Rattle.tv_index.proofs.index.«Index+RamDirectory+C».create_in_ram_with.Goals as goal

pub returns-in-Ok-clause-created : goal.returns-in-Ok-clause-created
returns-in-Ok-clause-created g c =
    let made = c.in-Ok.ensures.created in
    record {
      settings_is = made.settings_is;
      schema_is = made.schema_is;
      kept = made.kept;
      executor = made.executor;
      managed = managed_one _ c.create.result tt c.create.ensures.new.reads _ _ _ made;
      collections = made.collections;
      saved = made.saved tt;
      lists = made.lists tt;
      others = no_others _ c.create.result tt c.create.ensures.new.reads _ _ _ made;
    }

pub returns-in-Err-clause-err : goal.returns-in-Err-clause-err
returns-in-Err-clause-err g c =
    c.error_of.ensures ∙ only_memory _ c.create.result tt c.create.ensures.new.reads (λ d. refl) _ _ _ c.in-Err.ensures.refused
