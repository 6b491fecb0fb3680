-- The list of managed files, where each name reads what it read.
use Rattle.std.proofs.Common.{ℕ, List, Option, sym, subst}
use Rattle.tv_formats.specs.Files.{Reads, Same}
use Rattle.tv_formats.specs.Listing.{Listing, Lists}

pub listing_before : (old new : Reads) (names : List (List ℕ)) → Same old new → Listing new names → Listing old names
listing_before old new names same h = subst (λ (read : Option (List ℕ)). Lists read names) (same _) h

pub listing_after : (old new : Reads) (names : List (List ℕ)) → Same old new → Listing old names → Listing new names
listing_after old new names same h = subst (λ (read : Option (List ℕ)). Lists read names) (sym (same _)) h
