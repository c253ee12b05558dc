-- The request "A plan the box can load" (beyond document 02), "A plan written out as a cycle": "for a proper plan of either kind with k ≤ 512, its k reports as pairs (gap to the next,
-- size), as the cycle file. 11, then 12 where k is above 512, then 20."
use Rattle.std.specs.Prelude.{ℕ, zero, suc, ◌+◌, List, [], ◌∷◌, cond, Result, Ok, Err}
use Rattle.spec.specs.Limits.{if_none}
use Rattle.schedule.specs.Schedules.{Schedule}
use Rattle.plan.specs.declared.Plan.{Plan}
use Rattle.plan.specs.Plans.{proper, run}
use Rattle.pairs.specs.declared.Pair.{Pair}
use Rattle.pairs.specs.Pairs.{laid_over}
use Rattle.cyclefile.specs.File.{cycle_bytes, write_number}

-- n reports of a schedule, from report i on, "as pairs (gap to the next, size)"
unfoldable pub pairs_from : Schedule → ℕ → ℕ → List Pair
pairs_from s i zero = []
pairs_from s i (suc n) = record { gap = s.gap i; size = s.size i } ∷ pairs_from s (i + 1) n

-- "its k reports": those of one period, from report 0 on
unfoldable pub plan_pairs : Plan → List Pair
plan_pairs p = pairs_from (run p) 0 p.count

-- "as the cycle file", where so many bytes are lent; "11", and for a proper plan what writing its cycle is refused for: "12 where k is
-- above 512, then 20" (no proper plan has 0 reports)
unfoldable pub plan_file : (room : ℕ) → Plan → Result (List ℕ) ℕ
plan_file room p = cond (proper p) (if_none (write_number room (plan_pairs p)) (Ok (cycle_bytes (plan_pairs p))) Err) (Err 11)

-- lent bytes after writing: "Bytes past the file keep theirs", and a refusal "writes to no lent list or bytes"
abbrev pub file_after : Result (List ℕ) ℕ → List ℕ → List ℕ
file_after (Ok bytes) old = laid_over bytes old
file_after (Err n) old = old
