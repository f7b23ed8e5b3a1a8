use Rattle.std.proofs.Common.{◌∙◌, ap, sym, codes, map, None, Some}
use Rattle.std.proofs.lemmas.Result.{IfOk-weaker}
use Rattle.std.specs.Option.{option_map}
use Rattle.clap.specs.Matches.{found_of}
use Rattle.cppfilt_command.proofs.Rows.{all-by}
use Rattle.cppfilt_command.proofs.request.names_in.Goals as goal

pub returns-in-Some : goal.returns-in-Some
returns-in-Some c =
    let reads = ap (option_map (λ s. map (λ v. v.now) s.now)) (sym c.in-Some.is) ∙ c.get_strs.ensures in
    let all = all-by (found_of c.args.matches.now) (codes "names") (Some c.in-Some.names) reads in
    IfOk-weaker c.from_slice.result _ _ (λ given items. ap (map (λ v. v.now)) items ∙ sym all)
    c.from_slice.ensures.items

pub returns-in-None : goal.returns-in-None
returns-in-None c =
    let reads = ap (option_map (λ s. map (λ v. v.now) s.now)) (sym c.in-None.is) ∙ c.get_strs.ensures in
    let all = all-by (found_of c.args.matches.now) (codes "names") None reads in
    ap (map (λ v. v.now)) c.new.ensures.items ∙ sym all
