use Rattle.std.proofs.Common.{rules, refl, map, string_bytes, ◌≡◌, ◌++◌, List, ℕ, true, sym, ap, subst, ◌∙◌}
use Rattle.std.specs.Prelude.{OnOk, Some}
use Rattle.std.proofs.lemmas.Result.{on_ok_weaker}
use Rattle.tv_formats.specs.Files.{KeepsOthers, Sets}
use Rattle.tv_formats.specs.Footer.{sealed}
use Rattle.tv_formats.proofs.Bodies.{sealed_has_body}
use Rattle.tv_managed.specs.Writers.{IsSummed}
use Rattle.tv_managed.proofs.Endings.{sealed_sets}
use Rattle.tv_formats.specs.Disk.{Sealed}
use Rattle.tv_managed.specs.Crashes.{SealsStates}
use Rattle.tv_managed.specs.Names.{ManagedNames}
use Rattle.tv_managed.specs.TrackLaws.{keeps_then, track_read, track_then}
use Rattle.tv_managed.proofs.Tracking.{listed_by_within, listed_file, track_from, track_same}
use Rattle.tv_formats.proofs.DiskLaws.{touches_more, touches_same, touches_then}
use Rattle.tv_managed.proofs.Touching.{added_written, adds_run, gained_more, gained_none, gained_one, gained_same, gained_then, keeps_same, time_written, track_written}
use Rattle.tv_device.specs.Calls.{IoFaults}
use Rattle.tv_device.specs.ViewLaws.{kept_itself, kept_then}
use Rattle.tv_device.specs.TouchLaws.{reads_touch, touches_by}
use Rattle.tv_managed.specs.Managed.{SealsBody}
use Rattle.tv_managed.proofs.Writing.{io_none, io_on, io_then, names_kept, seals_none, seals_unwritten}
use Rattle.tv_managed.proofs.Results.{handed}
use Rattle.tv_managed.proofs.managed_directory.ManagedDirectory.terminate.Goals as goal

pub returns-clause-seals : goal.returns-clause-seals
returns-clause-seals g c =
    let D = g.D.Directory in
    let w = c.args.writer in
    let name = (D.state_of w.writer).name in
    let body = (D.state_of w.writer).written in
    let same : c.self.inside.directory ≡ c.args.self.now.0 = ap (λ v. v.0) c.self.view_is in
    let sets : D.told.content → (D.view c.args.self.now.0).lives w.writer ≡ true → IsSummed D.state_of w → OnOk c.terminate.result (Sets (D.view c.args.self.now.0).reads (D.view c.terminate.new.self).reads name (Some (sealed body))) =
    λ tells lives summed.
    let text = c.in_ok-write.ensures.appends.ok ∙ ap (λ (l : List ℕ). body ++ l) (c.as_slice.ensures.value ∙ c.in_ok-footer.ensures body summed) in
    let lives2 = c.in_ok-write.ensures.hands_back.lives tells ∙ subst (λ x. (D.view x).lives w.writer ≡ true) (sym same) lives in
    on_ok_weaker c.terminate.result (λ sets. sealed_sets (D.view c.args.self.now.0).reads (D.view c.write.new.self).reads (D.view c.terminate.new.self).reads name (D.state_of c.write.new.writer).name (D.state_of c.write.new.writer).written body
    (subst (λ x. KeepsOthers (D.view x).reads (D.view c.write.new.self).reads name) same (c.in_ok-write.ensures.touches.others tells))
    c.in_ok-write.ensures.appends.name text sets) (c.terminate.ensures.seals.ok tells lives2) in
    record {
      ok = sets;
      body = λ tells lives summed. on_ok_weaker c.terminate.result (λ done. (sealed body, done.changed, sealed_has_body body)) (sets tells lives summed);
      others = search rules;
      there = search rules;
      gone = search rules;
    }

pub returns-in_err-footer-clause-safe : goal.returns-in_err-footer-clause-safe
returns-in_err-footer-clause-safe g c = λ tells other. record {
  tracks = track_same g.D.Directory;
  listed = λ was. was;
  states = record {
    touches = touches_same _ _;
    moments = λ summed. adds_run (gained_same _ _);
    stands = λ lives summed. search rules;
    gone = λ lives. keeps_same _;
  };
}

pub returns-in_err-write-clause-safe : goal.returns-in_err-write-clause-safe
returns-in_err-write-clause-safe g c = λ tells other.
    let keeps = c.in_err-write.ensures.images tells in
    record {
      tracks = track_from g.D.Directory c.self.view_is (track_read g.D.Directory refl keeps);
      listed = listed_by_within g.D.Directory {new = c.write.new.self} c.self.view_is keeps.states.possible.no_more;
      states = subst (λ v. SealsStates g.D.Directory v.0 c.write.new.self c.args.writer c.from_residual-in_err-write.result) c.self.view_is (record {
        touches = reads_touch _ keeps;
        moments = λ summed. adds_run (gained_none _ keeps);
        stands = λ lives summed. search rules;
        gone = λ lives. keeps;
      });
    }

pub returns-clause-safe : goal.returns-clause-safe
returns-clause-safe g c = λ tells other.
    let D = g.D.Directory in
    let w = c.args.writer in
    let body = (D.state_of w.writer).written in
    let names : ManagedNames = record { managed = map string_bytes c.self.inside.managed.keys; collections = c.self.inside.collections } in
    let keeps = c.in_ok-write.ensures.images tells in
    let seals = c.terminate.ensures.images tells in
    let content = g.met.D.Directory.tells_more tells in
    let same = c.in_ok-write.ensures.appends.name in
    let text : IsSummed D.state_of w → (D.state_of c.write.new.writer).written ≡ sealed body = λ summed. c.in_ok-write.ensures.appends.ok ∙ ap (λ (l : List ℕ). body ++ l) (c.as_slice.ensures.value ∙ c.in_ok-footer.ensures body summed) in
    record {
      tracks = track_from D {new = (c.terminate.new.self, names)} c.self.view_is (λ was.
          let first = track_read D {new = (c.write.new.self, names)} refl keeps was in
          track_then D first (track_written D _ seals (g.met.D.Directory.stands c.write.new.self tells).possible (λ e. other (sym same ∙ e)) first.tracked));
      listed = λ was. listed_file D (c.write.new.self, names) c.terminate.new.self names refl (added_written _ seals) (λ e. other (sym same ∙ e))
          (listed_by_within D {new = c.write.new.self} c.self.view_is keeps.states.possible.no_more was);
      states = subst (λ v. SealsStates D v.0 c.terminate.new.self w c.terminate.result) c.self.view_is (record {
        touches = touches_then (reads_touch _ keeps) (touches_more (λ n it. it ∙ same) (touches_by _ seals));
        moments = λ summed. adds_run (gained_then (gained_none _ keeps) (gained_more (λ n s it. (it.0 ∙ same, it.1 ∙ ap Sealed (text summed))) (gained_one (time_written _ seals) (added_written _ seals))));
        stands = λ lives summed. on_ok_weaker c.terminate.result (λ sets. ap (D.disk c.terminate.new.self).now (sym same) ∙ sets.now ∙ ap Sealed (text summed)) (seals.gives (c.in_ok-write.ensures.hands_back.lives content ∙ lives)).ok;
        gone = λ lives. keeps_then keeps (seals.gone (c.in_ok-write.ensures.hands_back.lives content ∙ lives));
      });
    }

-- ---- why it failed, and what it leaves alone

pub returns-in_err-footer-clause-seals : goal.returns-in_err-footer-clause-seals
returns-in_err-footer-clause-seals g c =
    handed (SealsBody g.D.Directory c.args.self.now.0 c.args.self.now.0 c.args.writer) c.from_residual.result _ c.from_residual.ensures.1 (seals_none g.D.Directory c.args.self.now.0 c.args.writer _)

pub returns-in_err-footer-clause-faults : goal.returns-in_err-footer-clause-faults
returns-in_err-footer-clause-faults g c =
    let view = g.D.Directory.view c.args.self.now.0 in
    handed (IoFaults view view) c.from_residual.result _ c.from_residual.ensures.1 (io_none view)

pub returns-in_err-footer-clause-frame : goal.returns-in_err-footer-clause-frame
returns-in_err-footer-clause-frame g c = record { names = refl; below = kept_itself g.D.Directory.told (g.D.Directory.view c.args.self.now.0) }

pub returns-in_err-write-clause-seals : goal.returns-in_err-write-clause-seals
returns-in_err-write-clause-seals g c =
    handed (SealsBody g.D.Directory c.args.self.now.0 c.write.new.self c.args.writer) c.from_residual-in_err-write.result _ c.from_residual-in_err-write.ensures.1
    (seals_unwritten g.D.Directory _ c.self.view_is c.write.ensures.touches)

pub returns-in_err-write-clause-faults : goal.returns-in_err-write-clause-faults
returns-in_err-write-clause-faults g c =
    let D = g.D.Directory in
    handed (IoFaults (D.view c.args.self.now.0) (D.view c.write.new.self)) c.from_residual-in_err-write.result _ c.from_residual-in_err-write.ensures.1 (io_on D c.self.view_is c.in_err-write.ensures.faults)

pub returns-in_err-write-clause-frame : goal.returns-in_err-write-clause-frame
returns-in_err-write-clause-frame g c = names_kept g.D.Directory c.self.view_is c.write.ensures.frame

pub returns-clause-faults : goal.returns-clause-faults
returns-clause-faults g c =
    let D = g.D.Directory in
    io_then c.terminate.result (c.in_ok-write.ensures.faults.quiet ∙ ap (λ v. (D.view v.0).faults) c.self.view_is) c.terminate.ensures.faults

pub returns-clause-frame : goal.returns-clause-frame
returns-clause-frame g c = names_kept g.D.Directory c.self.view_is (kept_then c.write.ensures.frame c.terminate.ensures.frame)
