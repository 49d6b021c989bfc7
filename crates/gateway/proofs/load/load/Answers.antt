-- A right list that fits is loaded, into the first records.
use Rattle.std.proofs.Common.{◌≡◌, ◌%◌, refl, sym, ap, ◌∙◌, ℕ, ltb, Bool, true, false, cond, List, [], ◌∷◌, zero, suc, ◌++◌, length, take, drop, arith}
use Rattle.std.specs.Prelude.{Err, Ok, Result}
use Rattle.endpoint.specs.declared.Reason.{Reason}
use Rattle.endpoint.specs.declared.Reason.TheVariants as R
use Rattle.settings.specs.Lists.{count_of, is_list}
use Rattle.settings.proofs.Lists.{count_le}
use Rattle.records.specs.declared.Record.{Record}
use Rattle.lent.specs.First.{filled, filled_alike}
use Rattle.gateway.specs.Loading.{fresh_at}
use Rattle.gateway.proofs.load.load.Goals as goal

pub record Planned (b s : Bool) (n k : ℕ) : Type 0 where
  pub right : b ≡ true
  pub fits : s ≡ false
  pub counted : k ≡ n

planned : (b s : Bool) (n k : ℕ) → ◌≡◌ {A = Result ℕ Reason} (cond b (cond s (Err R.Buffer) (Ok n)) (Err R.Settings)) (Ok k)
    → Planned b s n k
planned b s n k e = grind arith

-- the first k elements, and the rest
filled_cut : {R : Type 0} (f : ℕ → R) (k : ℕ) (ys : List R)
    → filled f (length (take k ys)) (take k ys) ++ drop k ys ≡ filled f k ys
filled_cut f zero ys = refl
filled_cut f (suc k) [] = refl
filled_cut f (suc k) (y ∷ ys) = ap (λ (zs : List _). f 0 ∷ zs) (filled_cut (λ i. f (suc i)) k ys)

-- of a right list all connections have their record: there are 64 at most
filled_made : (number : ℕ) (ws : List ℕ) (ys : List Record) → is_list ws ≡ true
    → filled (λ i. fresh_at number ws (i % 256)) (count_of ws) ys ≡ filled (fresh_at number ws) (count_of ws) ys
filled_made number ws ys h =
    let l = count_le ws h in
    filled_alike (λ i. fresh_at number ws (i % 256)) (fresh_at number ws) (count_of ws) ys
    (λ i k. ap (fresh_at number ws) (let e : i % 256 ≡ i = omega (arith, l, k) in e))

pub returns-in-Ok : goal.returns-in-Ok
returns-in-Ok c =
    let ys = c.args.rs.now in
    let ws = c.args.list.now in
    let k = c.in-Ok.count in
    let p = planned (is_list ws) (ltb (length ys) (count_of ws)) (count_of ws) k (sym c.planned.ensures ∙ c.in-Ok.is) in
    let f : ℕ → Record = λ i. fresh_at c.args.c.session ws (i % 256) in
    let made : c.make.new.table ++ drop k ys ≡ filled (fresh_at c.args.c.session ws) k ys =
    ap (λ (zs : List Record). zs ++ drop k ys) c.make.ensures
    ∙ filled_cut f k ys
    ∙ ap (λ (n : ℕ). filled f n ys) p.counted
    ∙ filled_made c.args.c.session ws ys p.right
    ∙ ap (λ (n : ℕ). filled (fresh_at c.args.c.session ws) n ys) (sym p.counted) in
    record {
      told = c.of.ensures ∙ rw (p.right, p.fits, p.counted);
      left = made ∙ rw (p.right, p.fits, p.counted);
    }
