use Rattle.std.proofs.Common.{refl, ap, ◌∙◌, rules}
use Rattle.std.specs.List.{flat_map}
use Rattle.hashing.specs.Sha256.{bytes4, bytes_of}
use Rattle.hashing.proofs.Arrays.{map_is}
use Rattle.hashing.proofs.state.ArrayU832FromState.from.Goals as goal

pub returns : goal.returns
unfolding bytes4 bytes_of
returns c =
    c.copy_from_slice.ensures.after ∙ c.as_flattened.ensures.value ∙
    ap (flat_map (λ x. x)) (map_is c.map.ensures.items refl bytes4 (λ p q x y k. search rules))
