-- What is read at the end of a file, and why it isn't.
use Rattle.std.proofs.Common.{◌≡◌, ℕ, List, Option, Some, ⊎_elim, inl, inr, sym, ap, subst, ◌∙◌}
use Rattle.std.proofs.lemmas.Option.{same_Some}
use Rattle.tv_formats.specs.Files.{KeepsOthers, Reads, Sets}
use Rattle.tv_formats.specs.Footer.{HasBody, IsFramed, IsOtherFormat, IsReadFormat, sealed}
use Rattle.tv_formats.specs.FooterForm.{FooterNumbers}
use Rattle.tv_formats.proofs.Bodies.{body_of_good, one_footer}
use Rattle.tv_base.specs.declared.open_errors.OpenReadError.{OpenReadError}
use Rattle.tv_base.specs.declared.open_errors.OpenReadError.TheVariants as read
use Rattle.tv_framing.specs.declared.footer.Footer.{Footer}
use Rattle.tv_framing.specs.Footers as framing
use Rattle.tv_managed.specs.Reading.{HasNoBody, HasNoFooter, OpenBodyCause, ReadsBody, ReadsSuch}

-- what the name read is of no format that is read, so it has no body
pub other_format : (bytes : List ℕ) (footer : FooterNumbers) (body : List ℕ) → IsFramed bytes footer body → IsOtherFormat footer.format → HasNoBody bytes
other_format bytes footer body h other found good =
    other (subst (λ (f : FooterNumbers). IsReadFormat f.format) (sym (one_footer bytes footer good.footer body found h good.framed).0) good.format)

-- the cause of an error where less is known of it
pub less_known : (was : Option (List ℕ)) (error : OpenReadError) → OpenBodyCause (Unit {0}) (λ _. ReadsSuch was HasNoFooter) (λ _. ⊥) (Unit {0}) (Unit {0}) error
    → OpenBodyCause (Unit {0}) (λ _. ReadsSuch was HasNoBody) (λ _. ReadsSuch was HasNoBody) (Unit {0}) (Unit {0}) error
less_known was (read.FileDoesNotExist path) h = h
less_known was (read.IoError fault path) h = ⊎_elim (λ d. inl d) (λ bad. inr (bad.0, bad.1, λ body h. bad.2 h.footer body h.framed)) h
less_known was (read.IncompatibleIndex why) h = absurd h
less_known was read.Memory h = h

-- no footer by its struct is none by its numbers
pub numbered : (bytes : List ℕ) → ((footer : Footer) (body : List ℕ) → framing.IsFramedAs bytes footer body → ⊥) → HasNoFooter bytes
numbered bytes none footer body h =
    none (record { version = record { major = footer.major; minor = footer.minor; patch = footer.patch; index_format_version = footer.format }; crc = footer.crc }) body h

-- what is read has one body
pub one_body : (was : Option (List ℕ)) (first second : List ℕ) → ReadsBody was first → ReadsBody was second → first ≡ second
one_body was first second h k =
    sym (body_of_good h.0 first h.2) ∙ body_of_good h.0 second (subst (λ (l : List ℕ). HasBody l second) (same_Some _ _ (sym k.1 ∙ h.1)) k.2)

-- a file is sealed where its footer was written behind its body and nothing else was changed
pub sealed_sets : (old mid new : Reads) (name given text body : List ℕ) → KeepsOthers old mid name → given ≡ name → text ≡ sealed body → Sets mid new given (Some text) → Sets old new name (Some (sealed body))
sealed_sets old mid new name given text body kept same is h = record {
  changed = ap new (sym same) ∙ h.changed ∙ ap (λ (l : List ℕ). Some l) is;
  others = λ n other. h.others n (λ e. other (e ∙ same)) ∙ kept n other;
}
