-- Document 01, "The specification", second paragraph: "A schedule is endless. Report 0 is at minute 0. A stretch of n minutes
-- from a (a at least 0) is minutes a to a + n − 1. It holds, summed, the sizes of the reports at those minutes."
use Rattle.std.specs.Prelude.{ℕ, zero, suc, ◌+◌, ◌*◌, ◌/◌, ◌%◌, ◌≡◌, Bool, true, false, cond, ◌&&◌, leb, ltb}

-- report i has `size i` records, and report i + 1 comes `gap i` minutes after it
pub record Schedule : Type 0 where
  pub size : ℕ → ℕ
  pub gap : ℕ → ℕ

-- f 0 + .. + f (n - 1)
unfoldable pub sum : (ℕ → ℕ) → ℕ → ℕ
sum f zero = 0
sum f (suc n) = sum f n + f n

-- document 02, Req 08: "the sum over whole rounds is a product". Of c to a round, what is added up over n is n / c times what it is over
-- c, and what it is over n mod c.
abbrev pub InRounds : ℕ → (ℕ → ℕ) → Type 0
InRounds c g = (n : ℕ) → g n ≡ n / c * g c + g (n % c)

-- the minute of report i: the sum of the first i gaps
unfoldable pub minute : Schedule → ℕ → ℕ
minute s i = sum s.gap i

-- document 02, Req 12: "one endless run, begun at some report": from report k on
unfoldable pub begun_at : Schedule → ℕ → Schedule
begun_at s k = record { size = λ i. s.size (k + i); gap = λ i. s.gap (k + i) }

-- Report i is at minute t. What those of the n reports from it on hold that are at minutes a to e - 1.
-- Minutes never fall, so it ends at the first report at e or later.
unfoldable pub held_from : Schedule → ℕ → ℕ → ℕ → ℕ → ℕ → ℕ
held_from s a e zero i t = 0
held_from s a e (suc n) i t =
    elim (ltb t e) [ true ↦ cond (leb a t) (s.size i) 0 + held_from s a e n (i + 1) (t + s.gap i) | false ↦ 0 ]

-- What the stretch of w minutes from a holds: minutes a to a + w - 1.
-- "A gap of 0 is below every range, so no stretch need be summed there": where no gap is 0, report i is at minute i or later,
-- so every report of those minutes is among the first a + w. It walks the reports with their minutes carried along, so that
-- it computes; `stretch_sum` of the demands' page says that it is the plain sum of what the reports add (`share`).
unfoldable pub stretch : Schedule → ℕ → ℕ → ℕ
stretch s a w = held_from s a (a + w) (a + w) 0 0

-- whether minute t is one of the stretch of w minutes from a
abbrev pub in_stretch : ℕ → ℕ → ℕ → Bool
in_stretch a w t = leb a t && ltb t (a + w)

-- what report i adds to the stretch of w minutes from a: its size where its minute is one of them
unfoldable pub share : Schedule → ℕ → ℕ → ℕ → ℕ
share s a w i = cond (in_stretch a w (minute s i)) (s.size i) 0
