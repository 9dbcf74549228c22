-- What a contract sees of a source over a reader of std, and of a sink over a writer.
use Rattle.std.specs.Prelude.{ℕ}

-- the reader, and how many of its reads failed, up to 2^64 - 1
pub record ReaderState (R : Type 0) : Type 0 where
  pub reader : R
  pub faults : ℕ

-- the writer, and how many of its writes failed, up to 2^64 - 1
pub record WriterState (W : Type 0) : Type 0 where
  pub writer : W
  pub faults : ℕ
