use Rattle.tv_formats.specs.Names.{list_name}
use Rattle.tv_managed.proofs.ListTrees.{absent_is, lists_absent, lists_found, lists_nothing}
use Rattle.tv_managed.proofs.SetsOfTexts.{none_managed}
use Rattle.tv_managed.proofs.list.load_managed_paths.Goals as goal

pub returns-in-Some-clause-names : goal.returns-in-Some-clause-names
returns-in-Some-clause-names g c tells =
    lists_found _ c.as_slice.result.now c.in-Ok.bytes.items c.in_ok-names-in-Ok.field-0 c.in-Some.names (c.in-Ok.ensures.bytes tells) c.as_slice.ensures.value c.in-Some.is
    c.in_ok-names-in-Ok.ensures

pub returns-in-Ok-clause-faults : goal.returns-in-Ok-clause-faults
returns-in-Ok-clause-faults g c = record {
  quiet = tt;
  cause = (
    c.in_ok-corruption-in-None.ensures,
    (
      λ tells.
          lists_nothing _ c.as_slice.result.now c.in-Ok.bytes.items c.in_ok-names-in-Ok.field-0 (c.in-Ok.ensures.bytes tells) c.as_slice.ensures.value c.in-None.is
          c.in_ok-names-in-Ok.ensures,
      c.in-Ok.ensures.faults.quiet,
    ),
  );
}

pub returns-in-Err-FileDoesNotExist-clause-names : goal.returns-in-Err-FileDoesNotExist-clause-names
returns-in-Err-FileDoesNotExist-clause-names g c tells =
    let absent = absent_is list_name _ _ _ c.in-Err-FileDoesNotExist.field-0 c.in-Err-FileDoesNotExist.field-0-0 c.in-Err-FileDoesNotExist.field-0-is c.in-Err-FileDoesNotExist.ensures.faults.cause in
    lists_absent _ c.new.result.keys (absent.0 tells) c.new.ensures.empty

pub returns-in-Err-FileDoesNotExist-clause-managed : goal.returns-in-Err-FileDoesNotExist-clause-managed
returns-in-Err-FileDoesNotExist-clause-managed g c = none_managed _ c.new.ensures.empty
