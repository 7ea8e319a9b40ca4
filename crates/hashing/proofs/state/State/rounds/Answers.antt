-- Sixteen rounds, one after the other.
use Rattle.std.proofs.Common.{◌≡◌, ◌+◌, sym, ap, ◌∙◌, add-zero, lit<}
use Rattle.hashing.specs.Sha256.{rounds}
use Rattle.hashing.proofs.Schedule.{turn}
use Rattle.hashing.proofs.state.State.rounds.Goals as goal

pub returns : goal.returns
returns c m start t k h =
    let s0 : c.args.self ≡ rounds m (t + 0) start = h.variables ∙ ap (λ i. rounds m i start) (sym (add-zero t)) in
    let s1 = turn m start t 0 s0 (h.words 0 (lit< tt)) (c.round-s.ensures (t + 0) (k 0 (lit< tt))) in
    let s2 = turn m start t 1 s1 (h.words 1 (lit< tt)) (c.round-s-2.ensures (t + 1) (k 1 (lit< tt))) in
    let s3 = turn m start t 2 s2 (h.words 2 (lit< tt)) (c.round-s-3.ensures (t + 2) (k 2 (lit< tt))) in
    let s4 = turn m start t 3 s3 (h.words 3 (lit< tt)) (c.round-s-4.ensures (t + 3) (k 3 (lit< tt))) in
    let s5 = turn m start t 4 s4 (h.words 4 (lit< tt)) (c.round-s-5.ensures (t + 4) (k 4 (lit< tt))) in
    let s6 = turn m start t 5 s5 (h.words 5 (lit< tt)) (c.round-s-6.ensures (t + 5) (k 5 (lit< tt))) in
    let s7 = turn m start t 6 s6 (h.words 6 (lit< tt)) (c.round-s-7.ensures (t + 6) (k 6 (lit< tt))) in
    let s8 = turn m start t 7 s7 (h.words 7 (lit< tt)) (c.round-s-8.ensures (t + 7) (k 7 (lit< tt))) in
    let s9 = turn m start t 8 s8 (h.words 8 (lit< tt)) (c.round-s-9.ensures (t + 8) (k 8 (lit< tt))) in
    let s10 = turn m start t 9 s9 (h.words 9 (lit< tt)) (c.round-s-10.ensures (t + 9) (k 9 (lit< tt))) in
    let s11 = turn m start t 10 s10 (h.words 10 (lit< tt)) (c.round-s-11.ensures (t + 10) (k 10 (lit< tt))) in
    let s12 = turn m start t 11 s11 (h.words 11 (lit< tt)) (c.round-s-12.ensures (t + 11) (k 11 (lit< tt))) in
    let s13 = turn m start t 12 s12 (h.words 12 (lit< tt)) (c.round-s-13.ensures (t + 12) (k 12 (lit< tt))) in
    let s14 = turn m start t 13 s13 (h.words 13 (lit< tt)) (c.round-s-14.ensures (t + 13) (k 13 (lit< tt))) in
    let s15 = turn m start t 14 s14 (h.words 14 (lit< tt)) (c.round-s-15.ensures (t + 14) (k 14 (lit< tt))) in
    let s16 = turn m start t 15 s15 (h.words 15 (lit< tt)) (c.round-s-16.ensures (t + 15) (k 15 (lit< tt))) in
    s16
