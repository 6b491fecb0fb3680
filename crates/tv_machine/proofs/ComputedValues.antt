-- Checksums, the bytes of sealed files, names, lists and printed commits, computed.
use Rattle.std.proofs.Common.{◌≡◌, [], refl, codes, ◌∷◌, ◌++◌, Some}
use Rattle.std.specs.Fmt.{digits}
use Rattle.hex.specs.Hex.{encode_with}
use Rattle.json.specs.Print.{escape_byte}
use Rattle.tv_formats.specs.Footer.{sealed}
use Rattle.tv_machine.specs.State.{SealedFile, file_at, State, StepResult}
use Rattle.tv_machine.specs.Machine.{after, step}
use Rattle.tv_machine.specs.Index.{first_state}
use Rattle.tv_machine.proofs.Samples.{first_script}
use Rattle.tv_formats.specs.Listing.{list_text}
use Rattle.uuid.specs.Text.{by_index}
use Rattle.tv_formats.specs.Commits.{printed, default_settings}
use Rattle.tv_events.specs.declared.event.Event.TheVariants as events
use Rattle.tv_formats.proofs.ComputedForms.{text_schema}

-- the files that a script has made
pub first_postings : file_at (after first_state first_script) (codes "a5c4dfcbdfe645089129e308e26d5523.idx") ≡ Some (SealedFile (sealed (codes "123456789")))
unfolding encode_with digits
first_postings = refl

pub first_store : file_at (after first_state first_script) (codes "a5c4dfcbdfe645089129e308e26d5523.store") ≡ Some (SealedFile (sealed []))
unfolding encode_with digits
first_store = refl

-- that of an index that was just made
pub first_list : list_text first_state.managed ≡ codes "[\"meta.json\"]" ++ 10 ∷ []
unfolding escape_byte
first_list = refl

-- and after a first commit, in the order of the names
pub committed_list : list_text (after first_state first_script).managed ≡ codes "[\"a5c4dfcbdfe645089129e308e26d5523.fast\",\"a5c4dfcbdfe645089129e308e26d5523.fieldnorm\",\"a5c4dfcbdfe645089129e308e26d5523.idx\",\"a5c4dfcbdfe645089129e308e26d5523.pos\",\"a5c4dfcbdfe645089129e308e26d5523.store\",\"a5c4dfcbdfe645089129e308e26d5523.term\",\"meta.json\"]" ++ 10 ∷ []
unfolding encode_with digits escape_byte
committed_list = refl

-- a commit of one segment of three documents
pub committed_printed : printed default_settings text_schema (after first_state first_script).catalog.commit ≡
    codes "{\"index_settings\":{\"docstore_compression\":\"none\",\"docstore_blocksize\":16384},\"segments\":[{\"segment_id\":\"a5c4dfcb-dfe6-4508-9129-e308e26d5523\",\"max_doc\":3,\"deletes\":null}],\"schema\":[{\"name\":\"text\",\"type\":\"text\",\"options\":{\"indexing\":{\"record\":\"position\",\"fieldnorms\":true,\"tokenizer\":\"default\"},\"stored\":false,\"fast\":false}}],\"opstamp\":1}"
unfolding encode_with digits by_index escape_byte
committed_printed = refl

-- a commit of no segments, after a first one
abbrev told : StepResult State
told = step (after first_state first_script) (events.Commit (Some (codes "hi")) []) []

pub payload_told : told.0 ≡ codes "commit 2 0"
unfolding encode_with digits
payload_told = refl

pub payload_printed : printed default_settings text_schema told.1.catalog.commit ≡
    codes "{\"index_settings\":{\"docstore_compression\":\"none\",\"docstore_blocksize\":16384},\"segments\":[],\"schema\":[{\"name\":\"text\",\"type\":\"text\",\"options\":{\"indexing\":{\"record\":\"position\",\"fieldnorms\":true,\"tokenizer\":\"default\"},\"stored\":false,\"fast\":false}}],\"opstamp\":2,\"payload\":\"hi\"}"
unfolding encode_with digits escape_byte
payload_printed = refl
