-- An index that is made in memory, where no call is refused and there are no files before.
use Rattle.std.proofs.Common.{◌≡◌, ◌≢◌, inl, inr, ℕ, List, [], ◌∷◌, None, refl, ap, ◌∙◌, arith}
use Rattle.std.specs.BTreeSet.{insert_key}
use Rattle.tv_base.specs.declared.error.TantivyError.{TantivyError}
use Rattle.tv_base.specs.declared.error.TantivyError.TheVariants as errors
use Rattle.tv_device.specs.declared.directory.Directory.{Ghosts}
use Rattle.tv_managed.specs.Wrapping.{ListRefusal}
use Rattle.tv_formats.specs.Commits.{IndexForm}
use Rattle.tv_formats.specs.Files.{Rose}
use Rattle.tv_formats.specs.Listing.{IsListFile}
use Rattle.tv_formats.specs.Names.{byte_cmp, meta_name}
use Rattle.tv_formats.proofs.ListTexts.{listing_of_none, listing_one}
use Rattle.tv_index.specs.Indexes.{CreatesIndex, IndexState, NotCreated}
use Rattle.tv_metas.specs.declared.index_settings.IndexSettings.{IndexSettings}

never : (m n : ℕ) → m ≡ 0 → n ≡ 0 → Rose m n → ⊥
never m n a b (inl lt) = omega (arith, a, b, lt)
never m n a b (inr e) = omega (arith, a, b, e)

module _ {D W C : Type 0} (g : Ghosts D W C) (before : D) (tells : g.told.content) (empty : (n : List ℕ) → (g.view before).reads n ≡ None) where
  pub managed_one : (settings : IndexSettings) (schema : List ℕ) (index : IndexState D) → CreatesIndex g before settings schema index → index.directory.1.managed ≡ meta_name ∷ []
  managed_one settings schema index h =
      let l = h.listed tells in
      l.2 ∙ ap (λ (names : List (List ℕ)). insert_key byte_cmp names meta_name) (listing_one (g.view before).reads l.0 [] l.1 (listing_of_none (g.view before).reads empty))

  -- there is no other file
  pub no_others : (settings : IndexSettings) (schema : List ℕ) (index : IndexState D) → CreatesIndex g before settings schema index
      → (n : List ℕ) → n ≢ meta_name → (IsListFile n → ⊥) → (g.view index.directory.0).reads n ≡ None
  no_others settings schema index h n meta list = h.others tells n meta list ∙ empty n

  pub only_memory : ((d : D) → (g.view d).faults ≡ 0) → (form : IndexForm) (now : D) (error : TantivyError) → NotCreated g before form now error → error ≡ errors.Memory
  only_memory still form now error h = cause error h.cause where
    cause : (e : TantivyError) → ListRefusal g.told (g.view before) (g.view now) e → e ≡ errors.Memory
    cause (errors.DataCorruption why) k = absurd (k.1.0 tells [] (listing_of_none (g.view before).reads empty))
    cause (errors.IoError fault) k = absurd (never (g.view before).faults (g.view now).faults (still before) (still now) k.1)
    cause errors.Memory k = refl
    cause other k = absurd k
