use Rattle.std.proofs.Common.{◌≡◌, rules, arith}
use Rattle.decode.proofs.reading.address_complete.Goals as goal

pub returns-in_err-g : goal.returns-in_err-g
returns-in_err-g c =
    let s = c.in_ok-status.ensures in
    let v = c.in_ok-exact.ensures in
    let octets : c.exact.new.self.octets.now ≡ c.args.octets.now = search rules in
    let place : c.exact.new.self.place ≡ 5 = omega arith in
    let tail = rw (place, octets) at c.in_err-g.ensures in
    search rules

pub returns-in_err-back : goal.returns-in_err-back
returns-in_err-back c =
    let s = c.in_ok-status.ensures in
    let v = c.in_ok-exact.ensures in
    let octets : c.exact.new.self.octets.now ≡ c.args.octets.now = search rules in
    let place : c.exact.new.self.place ≡ 5 = omega arith in
    let tail = rw (place, octets) at c.in_ok-g.ensures in
    search rules

pub returns : goal.returns
returns c =
    let s = c.in_ok-status.ensures in
    let v = c.in_ok-exact.ensures in
    let octets : c.exact.new.self.octets.now ≡ c.args.octets.now = search rules in
    let place : c.exact.new.self.place ≡ 5 = omega arith in
    let tail = rw (place, octets) at c.in_ok-g.ensures in
    search rules
