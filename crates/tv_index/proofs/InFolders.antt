-- An index that is made in a directory which was asked first whether one stands there.
use Rattle.std.proofs.Common.{◌≡◌, ◌⊎◌, inl, inr, ℕ, List, Option, Some, None, sym, ap, subst, ◌∙◌}
use Rattle.std.specs.Prelude.{MatchOption}
use Rattle.std.specs.Option.{IsSomeAnd}
use Rattle.tv_base.specs.declared.error.TantivyError.{TantivyError}
use Rattle.tv_device.specs.View.{OnlyReads}
use Rattle.tv_device.specs.Watch.{noted}
use Rattle.tv_device.specs.declared.directory.Directory.{Ghosts}
use Rattle.tv_formats.specs.Commits.{IndexForm}
use Rattle.tv_formats.specs.Names.{meta_name}
use Rattle.tv_index.specs.Building.{Builder, LacksSchema}
use Rattle.tv_index.specs.Folders.{IsUnmade, Makes, UnmadeCause}
use Rattle.tv_index.specs.Indexes.{CreatesIndex, IndexState, NotCreated}
use Rattle.tv_index.specs.NewForms.{form_with, new_text}
use Rattle.tv_index.specs.SavingLaws.{notes_later}
use Rattle.tv_metas.specs.declared.index_settings.IndexSettings.{IndexSettings}
use Rattle.tv_index.proofs.Listings.{listing_before}
use Rattle.tv_index.proofs.Openings.{refusal_later, unless_later}

module _ {D W C : Type 0} (g : Ghosts D W C) (before mid : D) (asked : OnlyReads g.told (g.view before) (g.view mid)) (still : (g.view mid).faults ≡ (g.view before).faults) where
  creates_later : (settings : IndexSettings) (schema : List ℕ) (index : IndexState D) → CreatesIndex g mid settings schema index → CreatesIndex g before settings schema index
  creates_later settings schema index h = record {
    settings_is = h.settings_is;
    schema_is = h.schema_is;
    kept = h.kept;
    executor = h.executor;
    saved = h.saved;
    others = λ t n other list. h.others t n other list ∙ asked.content t n;
    listed = λ t. let l = h.listed t in (l.0, listing_before (g.view before).reads (g.view mid).reads l.0 (asked.content t) l.1, l.2);
    lists = h.lists;
    collections = h.collections;
    quiet = h.quiet ∙ still;
    notes = h.notes ∙ ap (noted meta_name) asked.kept.watched;
    frame = notes_later asked h.frame;
  }

  not_created_later : (form : IndexForm) (now : D) (error : TantivyError) → NotCreated g mid form now error → NotCreated g before form now error
  not_created_later form now error h = record {
    either = λ t. either t (h.either t);
    memory = λ t is. h.memory t is ∙ asked.content t meta_name;
    others = λ t n other list. h.others t n other list ∙ asked.content t n;
    unchanged = λ t bytes n. h.unchanged t bytes n ∙ asked.content t n;
    cause = refusal_later g before mid asked still now error h.cause;
    frame = unless_later asked (λ other. other) h.frame;
  } where
    either : g.told.content → ((g.view now).reads meta_name ≡ Some (new_text form)) ⊎ ((g.view now).reads meta_name ≡ (g.view mid).reads meta_name)
        → ((g.view now).reads meta_name ≡ Some (new_text form)) ⊎ ((g.view now).reads meta_name ≡ (g.view before).reads meta_name)
    either t (inl made) = inl made
    either t (inr same) = inr (same ∙ asked.content t meta_name)

  module _ (builder : Builder) (none : g.told.content → (g.view before).reads meta_name ≡ None) where
    creates_of : (schema : Option (List ℕ)) (index : IndexState D) → IsSomeAnd schema (λ text. CreatesIndex g mid builder.settings text index)
        → IsSomeAnd schema (λ text. CreatesIndex g before builder.settings text index)
    creates_of None index h = absurd h
    creates_of (Some text) index h = creates_later builder.settings text index h

    -- none stood there, and one is made
    pub makes : (index : IndexState D) → IsSomeAnd builder.schema (λ text. CreatesIndex g mid builder.settings text index) → Makes g builder before index
    makes index h = record { absent = none; creates = creates_of builder.schema index h }

    cause : (schema : Option (List ℕ)) (now : D) (error : TantivyError) → MatchOption schema (LacksSchema mid now error) (λ text. NotCreated g mid (form_with builder.settings text) now error)
        → UnmadeCause g builder schema before now error
    cause None now error h = record {
      cause = h.cause;
      quiet = ap (λ (d : D). (g.view d).faults) h.same ∙ still;
      frame = subst (λ (d : D). OnlyReads g.told (g.view before) (g.view d)) (sym h.same) asked;
    }
    cause (Some text) now error h = not_created_later (form_with builder.settings text) now error h

    -- none stood there, and none is made
    pub unmade : (now : D) (error : TantivyError) → MatchOption builder.schema (LacksSchema mid now error) (λ text. NotCreated g mid (form_with builder.settings text) now error)
        → IsUnmade g builder before now error
    unmade now error h = record { absent = none; cause = cause builder.schema now error h }
