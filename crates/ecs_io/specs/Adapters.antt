-- What is seen of the adapters of std's readers and writers.
use Rattle.std.specs.Prelude.{ℕ}
use Rattle.ecs_io.specs.declared.std_streams.StdSource.{StdSource}
use Rattle.ecs_io.specs.declared.std_streams.StdSink.{StdSink}

-- the reader below
abbrev pub reader : {R : Type 0} → StdSource R → R
reader source = source.inner

-- how often it has failed
abbrev pub read_faults : {R : Type 0} → StdSource R → ℕ
read_faults source = source.faults

-- the writer below
abbrev pub writer : {W : Type 0} → StdSink W → W
writer sink = sink.inner

-- how often it has failed
abbrev pub write_faults : {W : Type 0} → StdSink W → ℕ
write_faults sink = sink.faults
