-- What is asked, in memory, as contracts see it.
use Rattle.std.specs.Prelude.{option_map}
use Rattle.wy_lens.specs.declared.words.Request.{Request}
use Rattle.wy_lens.specs.declared.words.Request.TheVariants.{Explain, Tell, Compare, Help, Version}
use Rattle.wy_lens.specs.declared.words.Telling.{Telling}
use Rattle.wy_lens.specs.declared.words.Telling.TheVariants.{Show, Slice, Report, Events}
use Rattle.wy_lens.specs.Words as words

abbrev pub telling_of : Telling → words.Telling
telling_of (Show question showing) = words.Show (option_map (λ s. s.now) question) showing
telling_of (Slice question) = words.Slice question.now
telling_of (Report question) = words.Report question.now
telling_of (Events line) = words.Events (option_map (λ s. s.now) line)

abbrev pub request_of : Request → words.Request
request_of (Explain source) = words.Explain source.now
request_of (Tell trace telling) = words.Tell trace.now (telling_of telling)
request_of (Compare beside trace other) = words.Compare beside trace.now other.now
request_of Help = words.Help
request_of Version = words.Version
