use Rattle.std.proofs.Common.{rules}
use Rattle.tv_formats.proofs.Results.{handed_on}
use Rattle.tv_base.specs.declared.open_errors.OpenReadError.TheVariants.{IncompatibleIndex}
use Rattle.tv_managed.proofs.Endings.{less_known, one_body, other_format}
use Rattle.tv_managed.proofs.managed_directory.ManagedDirectory.open_read.Goals as goal

pub returns-in_err-footer-clause-faults : goal.returns-in_err-footer-clause-faults
returns-in_err-footer-clause-faults g c = record {
  quiet = search rules;
  path = search rules;
  cause = search rules;
  err = search rules;
  outside = λ tells. handed_on c.from_residual.result c.in_err-footer.field-0.0 _ c.from_residual.ensures.1
      (less_known ((g.D.Directory.view c.args.self.now.0).reads c.args.name.now) c.in_err-footer.field-0.0 (c.in_err-footer.ensures.asks.faults.outside tells));
}

pub returns-in_err-is_compatible-clause-faults : goal.returns-in_err-is_compatible-clause-faults
returns-in_err-is_compatible-clause-faults g c =
    let read = c.in_ok-footer.ensures.read in
    let e = c.in_err-is_compatible.ensures in
    record {
      quiet = search rules;
      path = search rules;
      cause = search rules;
      err = λ tells. handed_on c.from_residual-in_err-is_compatible.result (IncompatibleIndex c.in_err-is_compatible.field-0.0) _ c.from_residual-in_err-is_compatible.ensures.1
          ((read tells).0, (read tells).1, record { footer = _; body = c.in_ok-footer.body; framed = (read tells).2; format = e.outside; is = e.err });
      outside = λ tells. handed_on c.from_residual-in_err-is_compatible.result (IncompatibleIndex c.in_err-is_compatible.field-0.0) _ c.from_residual-in_err-is_compatible.ensures.1
          ((read tells).0, (read tells).1, other_format (read tells).0 _ c.in_ok-footer.body (read tells).2 e.outside);
    }

pub returns-clause-body : goal.returns-clause-body
returns-clause-body g c tells =
    let found = c.in_ok-footer.ensures.read tells in
    (found.0, found.1, record { footer = _; framed = found.2; format = c.in_ok-is_compatible.ensures.ok })

pub returns-clause-back : goal.returns-clause-back
returns-clause-back g c tells body h = one_body ((g.D.Directory.view c.args.self.now.0).reads c.args.name.now) c.in_ok-footer.body body (returns-clause-body g c tells) h
