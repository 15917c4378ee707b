-- What the calls answer: an acceptance, or the number of a refusal (01: "Every refusal returns its number alone").
pub mod Planned
pub mod Covered
pub mod Checked
pub mod Laid
pub mod Number
