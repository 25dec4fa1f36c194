use Rattle.std.proofs.Common.{◌≡◌, ℕ, zero, suc, ◌+◌, ◌-◌, arith}
use Rattle.image.specs.declared.layout.Layout.{Layout}
use Rattle.guided.specs.Calls.{fresh_h, fresh_f, done_h, done_f}
use Rattle.reader_state.specs.declared.state.Counters.{Counters}
use Rattle.guided_rows.specs.CatchingUp.{before_h, before_f}
use Rattle.guided_rows.proofs.steps.counters_before.Goals as goal

-- those that seek leaves at row a
first-row : (l : Layout) (a n : ℕ) (k : Counters) → n ≡ 0 → (k.h_next ≡ fresh_h l a) × (k.f_next ≡ fresh_f l a) → (k.h_next ≡ before_h l a n) × (k.f_next ≡ before_f l a n)
unfolding before_h before_f
first-row l a zero k e h = h
first-row l a (suc n) k e h = absurd (omega arith)

-- and those of the row before
later-row : (l : Layout) (a n m : ℕ) (k : Counters) → n ≡ suc m → (k.h_next ≡ done_h l (a + m)) × (k.f_next ≡ done_f l (a + m)) → (k.h_next ≡ before_h l a n) × (k.f_next ≡ before_f l a n)
unfolding before_h before_f
later-row l a n m k e h = rw e h

pub fresh_counters-requires : goal.fresh_counters-requires
fresh_counters-requires c =
    record { sound = c.requires.sound; y_lt_h = omega arith }

pub returns-then-n-eq0 : goal.returns-then-n-eq0
returns-then-n-eq0 c =
    let a = c.args in first-row a.layout a.first a.n _ (omega arith) c.fresh_counters.ensures

pub returns : goal.returns
returns c =
    let a = c.args in later-row a.layout a.first a.n (a.n - 1) _ (omega arith) c.done_counters.ensures
