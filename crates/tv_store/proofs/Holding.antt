-- A state that is held is held still where nothing changes.
use Rattle.std.proofs.Common.{◌≡◌, ℕ, List, Option, true, true≢false, sym, ap, subst, ◌∙◌}
use Rattle.tv_formats.specs.Names.{is_undotted, meta_name, at}
use Rattle.tv_formats.specs.Files.{Reads, Same}
use Rattle.tv_machine.specs.State.{State, file_at}
use Rattle.tv_managed.specs.Managed.{KeepsOtherFiles}
use Rattle.tv_device.specs.View.{OnlyReads, Told, View}
use Rattle.tv_store.specs.Applying.{LeavesAlone}
use Rattle.tv_catalog.specs.Kept.{KeptState}
use Rattle.tv_store.specs.Kept.{FileHolds, Holds}
use Rattle.tv_store.specs.Stays.{KeepsDotted}
use Rattle.tv_store.proofs.Listings.{listing_kept}

-- where the same is read and kept, the same state is held
pub same_holds : (old new : Reads) (was now : KeptState) (s : State) → Same old new → now ≡ was → Holds old was s → Holds new now s
same_holds old new was now s same is h =
    subst (λ (kept : KeptState). Holds new kept s) (sym is) (record {
      catalog = h.catalog;
      managed = h.managed;
      collections = h.collections;
      segments = h.segments;
      names = h.names;
      files = λ n file. subst (λ (read : Option (List ℕ)). FileHolds (file_at s n) read (at was.open_files n)) (sym (same n)) (h.files n file);
      left = h.left;
      meta = (h.meta.0, same meta_name ∙ h.meta.1, h.meta.2);
      listing = listing_kept old new s.managed (λ n is. same n) h.listing;
      listed = h.listed;
    })

-- where no other file than an undotted one and the list was changed, no other dotted one was
pub dotted_others : (old new : Reads) (name : List ℕ) → is_undotted name ≡ true → KeepsOtherFiles old new name → KeepsDotted old new
dotted_others old new name undotted others n dot other = others n (λ e. true≢false (sym (ap is_undotted e ∙ undotted) ∙ dot)) other

-- what only reads leaves all alone
pub reads_alone : {W : Type 0} {told : Told} {old new : View W} → OnlyReads told old new → told.content → LeavesAlone old new
reads_alone below tells = record { reads = below.content tells; watched = below.kept.watched }
