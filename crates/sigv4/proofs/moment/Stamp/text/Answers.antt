use Rattle.std.proofs.Common.{◌≡◌, ℕ, ◌+◌, ◌/◌, ◌%◌, [], ◌∷◌, ap, ◌∙◌, arith}
use Rattle.sigv4.proofs.moment.Stamp.text.Goals as goal

thousands : (n : ℕ) → 48 + n / 1000 % 10 ≡ 48 + n / 100 / 10 % 10
thousands n = omega arith

tens : (n : ℕ) → 48 + n / 10 % 10 ≡ 48 + n % 100 / 10 % 10
tens n = omega arith

ones : (n : ℕ) → 48 + n / 1 % 10 ≡ 48 + n % 100 % 10
ones n = omega arith

-- the two digits of a number, which the code widens first
high : {digit wide : ℕ} (n : ℕ) → wide ≡ n → digit ≡ 48 + wide / 10 % 10 → digit ≡ 48 + n / 10 % 10
high n is e = e ∙ ap (λ (m : ℕ). 48 + m / 10 % 10) is

low : {digit wide : ℕ} (n : ℕ) → wide ≡ n → digit ≡ 48 + wide / 1 % 10 → digit ≡ 48 + n % 10
low {digit} {wide} n is e = omega (arith, is, e)

pub returns : goal.returns
returns c =
    let s = c.args.self.now in
    let a : c.digit.result ≡ 48 + s.year / 100 / 10 % 10 = c.digit.ensures ∙ thousands s.year in
    let b : c.digit-2.result ≡ 48 + s.year / 100 % 10 = c.digit-2.ensures in
    let d : c.digit-3.result ≡ 48 + s.year % 100 / 10 % 10 = c.digit-3.ensures ∙ tens s.year in
    let e : c.digit-4.result ≡ 48 + s.year % 100 % 10 = c.digit-4.ensures ∙ ones s.year in
    let f : c.digit-5.result ≡ 48 + s.month / 10 % 10 = high s.month c.from-month.ensures c.digit-5.ensures in
    let g : c.digit-6.result ≡ 48 + s.month % 10 = low s.month c.from-month.ensures c.digit-6.ensures in
    let h : c.digit-7.result ≡ 48 + s.day / 10 % 10 = high s.day c.from-day.ensures c.digit-7.ensures in
    let j : c.digit-8.result ≡ 48 + s.day % 10 = low s.day c.from-day.ensures c.digit-8.ensures in
    let k : c.digit-9.result ≡ 48 + s.hour / 10 % 10 = high s.hour c.from-hour.ensures c.digit-9.ensures in
    let l : c.digit-10.result ≡ 48 + s.hour % 10 = low s.hour c.from-hour.ensures c.digit-10.ensures in
    let m : c.digit-11.result ≡ 48 + s.minute / 10 % 10 = high s.minute c.from-minute.ensures c.digit-11.ensures in
    let n : c.digit-12.result ≡ 48 + s.minute % 10 = low s.minute c.from-minute.ensures c.digit-12.ensures in
    let o : c.digit-13.result ≡ 48 + s.second / 10 % 10 = high s.second c.from-second.ensures c.digit-13.ensures in
    let p : c.digit-14.result ≡ 48 + s.second % 10 = low s.second c.from-second.ensures c.digit-14.ensures in
    λ i. a i ∷ b i ∷ d i ∷ e i ∷ f i ∷ g i ∷ h i ∷ j i ∷ 84 ∷ k i ∷ l i ∷ m i ∷ n i ∷ o i ∷ p i ∷ 90 ∷ []
