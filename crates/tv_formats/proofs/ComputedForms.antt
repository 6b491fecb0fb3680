-- Checksums, the bytes of sealed files, names, lists and printed commits, computed.
use Rattle.std.proofs.Common.{◌≡◌, ℕ, List, [], refl, codes, ◌∷◌, ◌++◌, length, Some, None, false}
use Rattle.tv_formats.specs.Checksum.{crc32}
use Rattle.std.specs.Fmt.{digits}
use Rattle.hex.specs.Hex.{encode_with}
use Rattle.json.specs.Print.{escape_byte, quoted}
use Rattle.serde_json.specs.Written.{compact_text}
use Rattle.tv_formats.specs.Footer.{footer, sealed}
use Rattle.tv_formats.proofs.Samples.{id_b}
use Rattle.tv_formats.specs.declared.segment.SegmentComponent.TheVariants.{Delete}
use Rattle.tv_formats.specs.Segments.{name_of, required_names}
use Rattle.uuid.specs.Text.{by_index}
use Rattle.tv_formats.specs.Commits.{printed, segment_tree, settings_tree, first_commit, default_settings}

-- a schema with one field
abbrev pub text_schema : List ℕ
text_schema = codes "[{\"name\":\"text\",\"type\":\"text\",\"options\":{\"indexing\":{\"record\":\"position\",\"fieldnorms\":true,\"tokenizer\":\"default\"},\"stored\":false,\"fast\":false}}]"

-- of no bytes
pub empty_crc : crc32 [] ≡ 0
empty_crc = refl

-- of the text by which checksums of this kind are told apart: CBF43926
pub digits_crc : crc32 (codes "123456789") ≡ 3421780262
digits_crc = refl

-- 352441C2
pub abc_crc : crc32 (codes "abc") ≡ 891568578
abc_crc = refl

-- a footer: its JSON, the length of that, and the number 1337, each number in four bytes
pub footer_of_123 : footer 123 ≡ codes "{\"version\":{\"major\":0,\"minor\":26,\"patch\":2,\"index_format_version\":7},\"crc\":123}" ++ 79 ∷ 0 ∷ 0 ∷ 0 ∷ 57 ∷ 5 ∷ 0 ∷ 0 ∷ []
unfolding digits escape_byte
footer_of_123 = refl

-- a file without a body
pub sealed_empty : sealed [] ≡ codes "{\"version\":{\"major\":0,\"minor\":26,\"patch\":2,\"index_format_version\":7},\"crc\":0}" ++ 77 ∷ 0 ∷ 0 ∷ 0 ∷ 57 ∷ 5 ∷ 0 ∷ 0 ∷ []
unfolding digits escape_byte
sealed_empty = refl

-- a file of nine bytes
pub sealed_digits : sealed (codes "123456789") ≡ codes "123456789" ++ codes "{\"version\":{\"major\":0,\"minor\":26,\"patch\":2,\"index_format_version\":7},\"crc\":3421780262}" ++ 86 ∷ 0 ∷ 0 ∷ 0 ∷ 57 ∷ 5 ∷ 0 ∷ 0 ∷ []
unfolding digits escape_byte
sealed_digits = refl

pub length_empty : length (sealed []) ≡ 85
unfolding digits escape_byte
length_empty = refl

pub length_digits : length (sealed (codes "123456789")) ≡ 103
unfolding digits escape_byte
length_digits = refl

-- the delete file of a segment by whose delete, with the number 7, no documents are deleted
pub delete_name : name_of id_b (Some (record { num_deleted_docs = 0; opstamp = 7 })) Delete ≡ codes "00000000000000000000000000000001.7.del"
unfolding encode_with digits
delete_name = refl

-- and the files that its readers need
pub six_required : required_names id_b (record { max_doc = 1; deletes = Some (record { num_deleted_docs = 0; opstamp = 7 }) }) ≡
    codes "00000000000000000000000000000001.idx"
    ∷ codes "00000000000000000000000000000001.pos"
    ∷ codes "00000000000000000000000000000001.fast"
    ∷ codes "00000000000000000000000000000001.fieldnorm"
    ∷ codes "00000000000000000000000000000001.term"
    ∷ codes "00000000000000000000000000000001.store"
    ∷ []
unfolding encode_with digits
six_required = refl

-- where no delete was made, the number in the name is 0
pub no_delete_name : name_of id_b None Delete ≡ codes "00000000000000000000000000000001.0.del"
unfolding encode_with digits
no_delete_name = refl

-- the commit of an index that was just made
pub first_printed : printed default_settings text_schema first_commit ≡
    codes "{\"index_settings\":{\"docstore_compression\":\"none\",\"docstore_blocksize\":16384},\"segments\":[],\"schema\":[{\"name\":\"text\",\"type\":\"text\",\"options\":{\"indexing\":{\"record\":\"position\",\"fieldnorms\":true,\"tokenizer\":\"default\"},\"stored\":false,\"fast\":false}}],\"opstamp\":0}"
unfolding digits escape_byte
first_printed = refl

-- a segment of three documents, one of which is deleted
pub deleted_printed : compact_text (segment_tree (id_b, record { max_doc = 3; deletes = Some (record { num_deleted_docs = 1; opstamp = 7 }) })) ≡
    codes "{\"segment_id\":\"00000000-0000-0000-0000-000000000001\",\"max_doc\":3,\"deletes\":{\"num_deleted_docs\":1,\"opstamp\":7}}"
unfolding digits by_index escape_byte
deleted_printed = refl

-- a setting that differs from the default
pub settings_printed : compact_text (settings_tree (record { dedicated_thread = false; blocksize = 16384 })) ≡
    codes "{\"docstore_compression\":\"none\",\"docstore_compress_dedicated_thread\":false,\"docstore_blocksize\":16384}"
unfolding digits escape_byte
settings_printed = refl

-- what isn't printed as it is: `"`, `\` and the control characters
pub payload_escaped : quoted (34 ∷ 92 ∷ 8 ∷ 12 ∷ 10 ∷ 13 ∷ 9 ∷ 1 ∷ 31 ∷ 32 ∷ 47 ∷ 127 ∷ 195 ∷ 169 ∷ []) ≡
    codes "\"\\\"\\\\\\b\\f\\n\\r\\t\\u0001\\u001f /" ++ 127 ∷ 195 ∷ 169 ∷ 34 ∷ []
unfolding escape_byte
payload_escaped = refl
