use Rattle.std.proofs.Common.{Err, ap, subst, ◌∙◌}
use Rattle.std.proofs.lemmas.Result.{IfOk-from_err}
use Rattle.tv_formats.specs.Disk.{Unsealed}
use Rattle.tv_formats.specs.Files.{KeepsOthers}
use Rattle.tv_formats.proofs.Results.{any_err, handed_on}
use Rattle.tv_managed.specs.Managed.{registering, CreateFaults, Creates}
use Rattle.tv_managed.proofs.Collections.{done_held}
use Rattle.tv_managed.proofs.Making.{manages_by, manages_none, manages_unlisted, others_of_refused}
use Rattle.tv_managed.proofs.Listing.{lists_asked}
use Rattle.tv_managed.proofs.Giving.{absent_unread, creates_safely, gains_still, given_safely, listed_safely, wanted_opened}
use Rattle.tv_managed.specs.TrackLaws.{listed_read, track_read}
use Rattle.tv_managed.proofs.Touching.{gained_none}
use Rattle.tv_device.specs.ViewLaws.{kept_then}
use Rattle.tv_device.specs.View.{Kept}
use Rattle.tv_device.specs.TouchLaws.{others_opened}
use Rattle.tv_managed.proofs.Creating.{StaysAbsent, creates_asked, creates_listed, creates_made, creates_refused, faults_made, faults_opened, is_free}
use Rattle.tv_managed.proofs.Results.{handed}
use Rattle.tv_managed.proofs.managed_directory.ManagedDirectory.open_write.Goals as goal

pub returns-in_err-refuse_taken-clause-manages : goal.returns-in_err-refuse_taken-clause-manages
returns-in_err-refuse_taken-clause-manages g c =
    let asks = c.in_err-refuse_taken.ensures.asks in
    manages_none g.D.Directory c.from_residual.result c.from_residual.ensures.0 asks.frame.names asks.frame.below.content

pub returns-in_err-list-clause-manages : goal.returns-in_err-list-clause-manages
returns-in_err-list-clause-manages g c =
    let asks = c.in_ok-refuse_taken.ensures.asks in
    manages_unlisted g.D.Directory c.from_residual-in_err-list.result c.from_residual-in_err-list.ensures.0 asks.frame.below.content asks.frame.names c.in_err-list.ensures.list

pub returns-in_err-writer-clause-manages : goal.returns-in_err-writer-clause-manages
returns-in_err-writer-clause-manages g c =
    let D = g.D.Directory in
    let asks = c.in_ok-refuse_taken.ensures.asks in
    manages_by D asks.frame.below.content asks.frame.names c.in_ok-list.ensures.list (ap (λ v. v.1) c.self.view_is)
    (λ tells. subst (λ v. KeepsOthers (D.view v.0).reads (D.view c.open_write.new.self).reads c.args.name.now) c.self.view_is
    (others_of_refused (D.view c.self.inside.directory).reads (D.view c.open_write.new.self).reads c.args.name.now c.in_err-writer.field-0.0 (c.in_err-writer.ensures.makes.err tells)))
    c.requires.other c.from_residual-in_err-writer.result (λ _. done_held c.args.self.now.1.collections.unfinished c.args.name.now asks.faults.free)

pub returns-clause-manages : goal.returns-clause-manages
returns-clause-manages g c =
    let D = g.D.Directory in
    let asks = c.in_ok-refuse_taken.ensures.asks in
    manages_by D asks.frame.below.content asks.frame.names c.in_ok-list.ensures.list (ap (λ v. v.1) c.self.view_is)
    (λ tells. subst (λ v. KeepsOthers (D.view v.0).reads (D.view c.open_write.new.self).reads c.args.name.now) c.self.view_is (c.in_ok-writer.ensures.makes.ok tells).1.others) c.requires.other _
    (λ _. done_held c.args.self.now.1.collections.unfinished c.args.name.now asks.faults.free)

pub returns-in_err-refuse_taken-clause-safe : goal.returns-in_err-refuse_taken-clause-safe
returns-in_err-refuse_taken-clause-safe g c = λ tells.
    let D = g.D.Directory in
    let asks = c.in_err-refuse_taken.ensures.asks in
    let keeps = asks.images tells in
    record {
      tracks = track_read D asks.frame.names keeps;
      listed = listed_read D c.args.self.now c.refuse_taken.new.self asks.frame.names keeps;
      states = record {
        moments = gained_none _ keeps;
        now = record { each = λ n other. keeps.states.now n };
        memory = any_err c.from_residual.result (λ e is. gained_none _ keeps);
        stands = IfOk-from_err c.from_residual.result _ c.from_residual.ensures.0;
      };
    }

pub returns-in_err-list-clause-safe : goal.returns-in_err-list-clause-safe
returns-in_err-list-clause-safe g c = λ tells.
    let D = g.D.Directory in
    let name = c.args.name.now in
    let asks = c.in_ok-refuse_taken.ensures.asks in
    let lists = lists_asked D name asks.frame.names (asks.images tells) (c.in_err-list.ensures.images tells) in
    let absent = absent_unread _ _ ((g.met.D.Directory.stands c.args.self.now.0 tells).reads name) (c.in_ok-refuse_taken.ensures.absent (g.met.D.Directory.tells_more tells)) in
    creates_safely D (listed_safely D Unsealed lists) (absent, asks.faults.free) (any_err c.from_residual-in_err-list.result (λ e is. lists.moments)) (IfOk-from_err c.from_residual-in_err-list.result _ c.from_residual-in_err-list.ensures.0)

pub returns-in_err-writer-clause-safe : goal.returns-in_err-writer-clause-safe
returns-in_err-writer-clause-safe g c = λ tells.
    let D = g.D.Directory in
    let name = c.args.name.now in
    let asks = c.in_ok-refuse_taken.ensures.asks in
    let lists = lists_asked D name asks.frame.names (asks.images tells) (c.in_ok-list.ensures.images tells) in
    let opens = c.in_err-writer.ensures.images tells in
    let absent = absent_unread _ _ ((g.met.D.Directory.stands c.args.self.now.0 tells).reads name) (c.in_ok-refuse_taken.ensures.absent (g.met.D.Directory.tells_more tells)) in
    let given = given_safely D lists c.self.view_is (c.in_ok-list.ensures.list.names ∙ ap (λ v. registering v name) asks.frame.names) c.requires.other
    (λ _. done_held c.args.self.now.1.collections.unfinished name asks.faults.free) opens.time opens.no_more (others_opened (Err c.in_err-writer.field-0.0) opens) in
    creates_safely D given (absent, asks.faults.free)
    (handed_on c.from_residual-in_err-writer.result _ _ c.from_residual-in_err-writer.ensures.1 (λ is. gains_still D lists c.self.view_is (record { states = wanted_opened _ _ _ _ opens.err is; time = opens.time })))
    (IfOk-from_err c.from_residual-in_err-writer.result _ c.from_residual-in_err-writer.ensures.0)

pub returns-clause-safe : goal.returns-clause-safe
returns-clause-safe g c = λ tells.
    let D = g.D.Directory in
    let name = c.args.name.now in
    let asks = c.in_ok-refuse_taken.ensures.asks in
    let lists = lists_asked D name asks.frame.names (asks.images tells) (c.in_ok-list.ensures.images tells) in
    let opens = c.in_ok-writer.ensures.images tells in
    let absent = absent_unread _ _ ((g.met.D.Directory.stands c.args.self.now.0 tells).reads name) (c.in_ok-refuse_taken.ensures.absent (g.met.D.Directory.tells_more tells)) in
    let given = given_safely D lists c.self.view_is (c.in_ok-list.ensures.list.names ∙ ap (λ v. registering v name) asks.frame.names) c.requires.other
    (λ _. done_held c.args.self.now.1.collections.unfinished name asks.faults.free) opens.time opens.no_more opens.ok.1.others in
    creates_safely D given (absent, asks.faults.free) tt opens.ok.1.now

-- ---- what was made, and why none

pub returns-in_err-refuse_taken-clause-creates : goal.returns-in_err-refuse_taken-clause-creates
returns-in_err-refuse_taken-clause-creates g c =
    let D = g.D.Directory in
    let asks = c.in_err-refuse_taken.ensures.asks in
    handed (Creates D c.args.self.now c.refuse_taken.new.self c.args.name.now) c.from_residual.result _ c.from_residual.ensures.1
    (creates_asked D asks.frame (record { quiet = tt; free = tt; cause = asks.faults.cause }))

pub returns-in_err-refuse_taken-clause-faults : goal.returns-in_err-refuse_taken-clause-faults
returns-in_err-refuse_taken-clause-faults g c =
    handed (CreateFaults g.D.Directory c.args.self.now c.refuse_taken.new.self c.args.name.now) c.from_residual.result _ c.from_residual.ensures.1
    (record { quiet = tt; free = tt; cause = c.in_err-refuse_taken.ensures.asks.faults.cause })

pub returns-in_err-refuse_taken-clause-frame : goal.returns-in_err-refuse_taken-clause-frame
returns-in_err-refuse_taken-clause-frame g c = c.in_err-refuse_taken.ensures.asks.frame.below.kept

pub returns-in_err-list-clause-creates : goal.returns-in_err-list-clause-creates
returns-in_err-list-clause-creates g c =
    let D = g.D.Directory in
    let asks = c.in_ok-refuse_taken.ensures.asks in
    handed (Creates D c.args.self.now c.list.new.self c.args.name.now) c.from_residual-in_err-list.result _ c.from_residual-in_err-list.ensures.1
    (creates_listed D c.requires.other (is_free D c.in_ok-refuse_taken.ensures.absent asks c.in_err-list.ensures.list.others) (faults_made D c.refuse_taken.new.self asks.faults.quiet c.in_err-list.ensures.faults))

pub returns-in_err-list-clause-faults : goal.returns-in_err-list-clause-faults
returns-in_err-list-clause-faults g c =
    let D = g.D.Directory in
    handed (CreateFaults D c.args.self.now c.list.new.self c.args.name.now) c.from_residual-in_err-list.result _ c.from_residual-in_err-list.ensures.1
    (faults_made D c.refuse_taken.new.self c.in_ok-refuse_taken.ensures.asks.faults.quiet c.in_err-list.ensures.faults)

pub returns-in_err-list-clause-frame : goal.returns-in_err-list-clause-frame
returns-in_err-list-clause-frame g c = kept_then c.in_ok-refuse_taken.ensures.asks.frame.below.kept c.in_err-list.ensures.list.frame

pub returns-in_err-writer-clause-faults : goal.returns-in_err-writer-clause-faults
returns-in_err-writer-clause-faults g c =
    let D = g.D.Directory in
    let asks = c.in_ok-refuse_taken.ensures.asks in
    handed (CreateFaults D c.args.self.now (c.open_write.new.self, _) c.args.name.now) c.from_residual-in_err-writer.result _ c.from_residual-in_err-writer.ensures.1
    (faults_opened D c.requires.other (is_free D c.in_ok-refuse_taken.ensures.absent asks c.in_ok-list.ensures.list.others) c.self.view_is (c.in_ok-list.ensures.faults.quiet ∙ asks.faults.quiet) c.in_err-writer.ensures.faults)

pub returns-in_err-writer-clause-creates : goal.returns-in_err-writer-clause-creates
returns-in_err-writer-clause-creates g c =
    let D = g.D.Directory in
    let asks = c.in_ok-refuse_taken.ensures.asks in
    let free : StaysAbsent D c.args.self.now c.list.new.self c.args.name.now = is_free D c.in_ok-refuse_taken.ensures.absent asks c.in_ok-list.ensures.list.others in
    handed (Creates D c.args.self.now (c.open_write.new.self, _) c.args.name.now) c.from_residual-in_err-writer.result _ c.from_residual-in_err-writer.ensures.1
    (creates_refused D c.requires.other free c.self.view_is c.in_err-writer.ensures.makes
    (faults_opened D c.requires.other free c.self.view_is (c.in_ok-list.ensures.faults.quiet ∙ asks.faults.quiet) c.in_err-writer.ensures.faults))

pub returns-in_err-writer-clause-frame : goal.returns-in_err-writer-clause-frame
returns-in_err-writer-clause-frame g c =
    let D = g.D.Directory in
    kept_then (kept_then c.in_ok-refuse_taken.ensures.asks.frame.below.kept c.in_ok-list.ensures.list.frame) (subst (λ v. Kept D.told (D.view v.0) (D.view c.open_write.new.self)) c.self.view_is c.in_err-writer.ensures.frame)

pub returns-clause-creates : goal.returns-clause-creates
returns-clause-creates g c = creates_made g.D.Directory _ (is_free g.D.Directory c.in_ok-refuse_taken.ensures.absent c.in_ok-refuse_taken.ensures.asks c.in_ok-list.ensures.list.others) c.self.view_is c.in_ok-writer.ensures.makes

pub returns-clause-faults : goal.returns-clause-faults
returns-clause-faults g c =
    let asks = c.in_ok-refuse_taken.ensures.asks in
    record {
      quiet = c.in_ok-writer.ensures.faults.quiet ∙ ap (λ v. (g.D.Directory.view v.0).faults) c.self.view_is ∙ c.in_ok-list.ensures.faults.quiet ∙ asks.faults.quiet;
      free = asks.faults.free;
      cause = tt;
    }

pub returns-clause-frame : goal.returns-clause-frame
returns-clause-frame g c =
    let D = g.D.Directory in
    kept_then (kept_then c.in_ok-refuse_taken.ensures.asks.frame.below.kept c.in_ok-list.ensures.list.frame) (subst (λ v. Kept D.told (D.view v.0) (D.view c.open_write.new.self)) c.self.view_is c.in_ok-writer.ensures.frame)
