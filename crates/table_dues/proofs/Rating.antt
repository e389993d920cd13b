-- The rate of a weight below 400.00 kg, below 600.00 kg, and from there on.
use Rattle.dues_rules.proofs.Rates.{light, middle, heavy}

pub ruleset rates = (light, middle, heavy)
