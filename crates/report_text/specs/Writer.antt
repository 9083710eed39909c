-- What a writer does to the buffer that is lent to it.
use Rattle.std.specs.Prelude.{ℕ, ◌≡◌, ◌++◌, length, drop}
use Rattle.std.specs.Borrow.{GName}
use Rattle.report_text.specs.Writing.{Text, written}
use Rattle.report_text.specs.declared.writer.Writer.{Writer}

-- which buffer is lent, the bytes in it, and the next position
pub record Held : Type 0 where
  pub buffer : GName
  pub bytes : Text
  pub at : ℕ

unfoldable pub held : Writer → Held
held w = record { buffer = w.out.ghost_name; bytes = w.out.now; at = w.at }

-- a text is put at the position: what does not fit is left out, and what stands behind it stays
unfoldable pub put : Text → Held → Held
put text h = record {
  buffer = h.buffer;
  bytes = written h.bytes h.at text ++ drop (length (written h.bytes h.at text)) h.bytes;
  at = length (written h.bytes h.at text);
}

-- from the writer before to the writer after, this text was put
abbrev pub Wrote : Writer → Writer → Text → Type 0
Wrote before after text = held after ≡ put text (held before)
