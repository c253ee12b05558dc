-- A read goes on where the last one ended: what it consumes lies behind what was consumed before, in the input and in the places.
use Prim.Native.Nat.{ℕ, ◌+◌, ◌-◌, ◌≤◌}
use native.Mathlib.Omega.{arith}
use mathlib.Core.Path.{◌≡◌, sym, ap, ◌∙◌}
use mathlib.Core.List.{List, ◌++◌}
use lib.ListN.{length, take}
use Rattle.std.proofs.KnownBytes.{Consumes-trans}
use Rattle.std.proofs.Math.Seq.{take-append-add}
use Rattle.std.proofs.lemmas.List.{take-append-le, length-take-le, length-append}
use borrow.Rule.Slice.PartMut.{put_mid, post_of}
use Rattle.evenplan.proofs.read_front.Goals as goal

placed_more : (read k n : ℕ) (places buf : List ℕ) → read ≤ length places → n ≤ length buf
    → take (read + n) (put_mid read k places buf) ≡ take read places ++ take n buf
placed_more read k n places buf h few =
    let front = take read places in
    let rest = buf ++ post_of read k places in
    ap (λ (i : ℕ). take (i + n) (front ++ rest)) (sym (length-take-le read places h))
    ∙ take-append-add front rest n
    ∙ ap (λ (l : List ℕ). front ++ l) (take-append-le n buf (post_of read k places) few)

pub loop-read-preserved : goal.loop-read-preserved
loop-read-preserved g c =
    let places = c.loop-read.places in
    let read = c.loop-read.read in
    let buf = c.read.new.buf in
    let n = c.in_ok-n.n in
    let few : n ≤ length buf = c.in_ok-n.ensures.bound.0 in (
      omega (arith, length-append (take read places) (buf ++ post_of read (length places - read) places), length-append buf (post_of read (length places - read) places), length-take-le read places c.loop-read.invariant.0, c.read.auto.buf),
      rw (placed_more read (length places - read) n places buf c.loop-read.invariant.0 few)
          (Consumes-trans _ _ _ _ _ c.loop-read.invariant.1 c.in_ok-n.ensures.bytes.0),
    )
