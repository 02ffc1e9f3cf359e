-- what a sink in memory holds
use Rattle.std.specs.Prelude.{ℕ}
use Rattle.std.specs.BTreeMap.{btree_map_len}
use Rattle.std.specs.BTreeSet.{contains_text}
use Rattle.memory_outside.specs.declared.sink.MemSink.{MemSink}
use Rattle.run_outside.specs.declared.tally.Tally.{Tally}
use Rattle.memory_outside.specs.Calls.{CallCount}
use Rattle.memory_outside.specs.Files.{files_of}
use Rattle.run_outside.specs.Sink.{Content}

abbrev pub sink_content : MemSink → Content
sink_content s = record {
  there = contains_text s.directories;
  out = s.out.items;
  err = s.err.items;
  files = files_of s.files;
}

abbrev pub file_count : MemSink → ℕ
file_count s = btree_map_len s.files

-- its calls so far, and which fail
abbrev pub sink_calls : MemSink → CallCount
sink_calls s = s.calls

-- what these calls have answered
abbrev pub sink_tally : MemSink → Tally
sink_tally s = s.tally
