use Rattle.std.proofs.Common.{◌≡◌, length, ap, sym, ◌∙◌}
use Rattle.aip_addr.proofs.Addresses.{read_back}
use Rattle.aip_addr.proofs.ids.Address.write.Goals as goal

pub returns-clause-read_back : goal.returns-clause-read_back
returns-clause-read_back c =
    let sized : length c.args.self.now.ad.bytes ≡ 20 = ap length (sym c.copy_from_slice.ensures.after) ∙ (c.copy_from_slice.ensures.len ∙ c.split_at_mut-ad.ensures.front_len) in
    rw (c.copy_from_slice.ensures.after, c.copy_from_slice-2.ensures.after) (read_back c.args.self.now sized)
