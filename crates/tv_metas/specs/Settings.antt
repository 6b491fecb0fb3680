-- The settings of an index, as commits have them.
use Rattle.std.specs.Prelude.{true}
use Rattle.tv_formats.specs.Commits.{Settings}
use Rattle.tv_metas.specs.declared.index_settings.Compressor.TheVariants as compressors
use Rattle.tv_metas.specs.declared.index_settings.IndexSettings.{IndexSettings}

-- the settings as definitions see them: there is one compressor only, so that it says nothing
abbrev pub settings_view : IndexSettings → Settings
settings_view settings = record {
  dedicated_thread = settings.docstore_compress_dedicated_thread;
  blocksize = settings.docstore_blocksize;
}

-- the settings of an index that says none
abbrev pub default_index_settings : IndexSettings
default_index_settings = record {
  docstore_compression = compressors.None;
  docstore_compress_dedicated_thread = true;
  docstore_blocksize = 16384;
}
