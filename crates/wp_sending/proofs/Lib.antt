mod FoundNames
mod SentWaves
mod OpenWithout
